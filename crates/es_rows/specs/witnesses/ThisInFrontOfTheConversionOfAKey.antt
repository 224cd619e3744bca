-- Printed by tools/rows/witnesses.js.
use Rattle.std.specs.Prelude.{ℕ, List, [], ◌∷◌, true, false, codes, Some, None}
use Rattle.es_base.specs.Tree.{Tree, end, more, child, absent, list, string, no_string, boolean, literal, trees}
use Rattle.es_base.specs.declared.kind.Kind.{Kind}
use Rattle.es_base.specs.declared.ledger.GeneratedKind.{GeneratedKind}
use Rattle.es_base.specs.declared.ledger.LedgerEntry.{LedgerEntry}
use Rattle.es_base.specs.declared.literal.LiteralValue.TheVariants as literal_value
use Rattle.es_steps.specs.Generated.{node}
use Rattle.es_steps.specs.Options.{options_of}
use Rattle.es_steps.specs.declared.options.Options.{Options}

-- `class A extends P { constructor() { k({ [h(() => super())]: (this, class { x = 1; }) }); } } new A();`
abbrev pub source_this_in_front_of_the_conversion_of_a_key : Tree
source_this_in_front_of_the_conversion_of_a_key = node Kind.Program 0 (more (string (codes "script")) (more (list (trees (node Kind.ClassDeclaration 1 (more (child (node Kind.BindingIdentifier 2 (more (string (codes "A")) end))) (more (child (node Kind.IdentifierReference 3 (more (string (codes "P")) end))) (more (child (node Kind.ClassBody 4 (more (list (trees (node Kind.MethodDefinition 5 (more (child (node Kind.IdentifierName 6 (more (string (codes "constructor")) end))) (more (child (node Kind.FunctionExpression 7 (more absent (more (list end) (more (child (node Kind.BlockStatement 8 (more (list (trees (node Kind.ExpressionStatement 9 (more (child (node Kind.CallExpression 10 (more (child (node Kind.IdentifierReference 11 (more (string (codes "k")) end))) (more (list (trees (node Kind.ObjectExpression 12 (more (list (trees (node Kind.Property 13 (more (child (node Kind.CallExpression 14 (more (child (node Kind.IdentifierReference 15 (more (string (codes "h")) end))) (more (list (trees (node Kind.ArrowFunctionExpression 16 (more (list end) (more (child (node Kind.CallExpression 17 (more (child (node Kind.Super 18 end)) (more (list end) (more (boolean false) end))))) (more (boolean false) end))) ∷ []))) (more (boolean false) end))))) (more (child (node Kind.SequenceExpression 19 (more (list (trees (node Kind.ThisExpression 20 end ∷ node Kind.ClassExpression 21 (more absent (more absent (more (child (node Kind.ClassBody 22 (more (list (trees (node Kind.PropertyDefinition 23 (more (child (node Kind.IdentifierName 24 (more (string (codes "x")) end))) (more (child (node Kind.Literal 25 (more (literal (literal_value.Number (codes "1"))) end))) (more (boolean false) (more (boolean false) end)))) ∷ []))) end))) end))) ∷ []))) end))) (more (string (codes "init")) (more (boolean false) (more (boolean false) (more (boolean true) end)))))) ∷ []))) end) ∷ []))) (more (boolean false) end))))) (more no_string end)) ∷ []))) end))) (more (boolean false) (more (boolean false) end))))))) (more (string (codes "constructor")) (more (boolean false) (more (boolean false) end))))) ∷ []))) end))) end))) ∷ node Kind.ExpressionStatement 26 (more (child (node Kind.NewExpression 27 (more (child (node Kind.IdentifierReference 28 (more (string (codes "A")) end))) (more (list end) end)))) (more no_string end)) ∷ []))) end))

-- the conversion of a key of an object calls `super`, and `this` is read in front of it: `class A extends P { constructor() { var _t; k({ [(_t = h(() => super()), this, _t)]: class { constructor() { B.defineProperty(this, "x", 1); } } }); } } new A();`
abbrev pub output_this_in_front_of_the_conversion_of_a_key : Tree
output_this_in_front_of_the_conversion_of_a_key = node Kind.Program 0 (more (string (codes "script")) (more (list (trees (node Kind.ClassDeclaration 1 (more (child (node Kind.BindingIdentifier 2 (more (string (codes "A")) end))) (more (child (node Kind.IdentifierReference 3 (more (string (codes "P")) end))) (more (child (node Kind.ClassBody 4 (more (list (trees (node Kind.MethodDefinition 5 (more (child (node Kind.IdentifierName 6 (more (string (codes "constructor")) end))) (more (child (node Kind.FunctionExpression 7 (more absent (more (list end) (more (child (node Kind.BlockStatement 8 (more (list (trees (node Kind.VariableDeclaration 29 (more (string (codes "var")) (more (list (trees (node Kind.VariableDeclarator 30 (more (child (node Kind.BindingIdentifier 31 (more (string (codes "_t")) end))) (more absent end)) ∷ []))) end)) ∷ node Kind.ExpressionStatement 9 (more (child (node Kind.CallExpression 10 (more (child (node Kind.IdentifierReference 11 (more (string (codes "k")) end))) (more (list (trees (node Kind.ObjectExpression 12 (more (list (trees (node Kind.Property 13 (more (child (node Kind.SequenceExpression 19 (more (list (trees (node Kind.AssignmentExpression 32 (more (string (codes "=")) (more (child (node Kind.IdentifierReference 33 (more (string (codes "_t")) end))) (more (child (node Kind.CallExpression 14 (more (child (node Kind.IdentifierReference 15 (more (string (codes "h")) end))) (more (list (trees (node Kind.ArrowFunctionExpression 16 (more (list end) (more (child (node Kind.CallExpression 17 (more (child (node Kind.Super 18 end)) (more (list end) (more (boolean false) end))))) (more (boolean false) end))) ∷ []))) (more (boolean false) end))))) end))) ∷ node Kind.ThisExpression 20 end ∷ node Kind.IdentifierReference 34 (more (string (codes "_t")) end) ∷ []))) end))) (more (child (node Kind.ClassExpression 21 (more absent (more absent (more (child (node Kind.ClassBody 22 (more (list (trees (node Kind.MethodDefinition 35 (more (child (node Kind.IdentifierName 36 (more (string (codes "constructor")) end))) (more (child (node Kind.FunctionExpression 37 (more absent (more (list end) (more (child (node Kind.BlockStatement 38 (more (list (trees (node Kind.ExpressionStatement 39 (more (child (node Kind.CallExpression 40 (more (child (node Kind.MemberExpression 41 (more (child (node Kind.IdentifierReference 42 (more (string (codes "babelHelpers")) end))) (more (child (node Kind.IdentifierName 43 (more (string (codes "defineProperty")) end))) (more (boolean false) (more (boolean false) end)))))) (more (list (trees (node Kind.ThisExpression 44 end ∷ node Kind.Literal 45 (more (literal (literal_value.String (codes "x") None)) end) ∷ node Kind.Literal 25 (more (literal (literal_value.Number (codes "1"))) end) ∷ []))) (more (boolean false) end))))) (more no_string end)) ∷ []))) end))) (more (boolean false) (more (boolean false) end))))))) (more (string (codes "constructor")) (more (boolean false) (more (boolean false) end))))) ∷ []))) end))) end))))) (more (string (codes "init")) (more (boolean false) (more (boolean false) (more (boolean true) end)))))) ∷ []))) end) ∷ []))) (more (boolean false) end))))) (more no_string end)) ∷ []))) end))) (more (boolean false) (more (boolean false) end))))))) (more (string (codes "constructor")) (more (boolean false) (more (boolean false) end))))) ∷ []))) end))) end))) ∷ node Kind.ExpressionStatement 26 (more (child (node Kind.NewExpression 27 (more (child (node Kind.IdentifierReference 28 (more (string (codes "A")) end))) (more (list end) end)))) (more no_string end)) ∷ []))) end))

abbrev pub generated_this_in_front_of_the_conversion_of_a_key : List LedgerEntry
generated_this_in_front_of_the_conversion_of_a_key = record { name = codes "_t"; kind = GeneratedKind.Temp } ∷ []

abbrev pub options_this_in_front_of_the_conversion_of_a_key : Options
options_this_in_front_of_the_conversion_of_a_key = options_of false (Some (record { loose = false })) false
