-- Printed by tools/rows/witnesses.js.
use Rattle.std.specs.Prelude.{ℕ, List, [], ◌∷◌, false, codes, Some, None}
use Rattle.es_base.specs.Tree.{Tree, end, more, child, absent, list, string, no_string, boolean, literal, trees}
use Rattle.es_base.specs.declared.kind.Kind.{Kind}
use Rattle.es_base.specs.declared.ledger.GeneratedKind.{GeneratedKind}
use Rattle.es_base.specs.declared.ledger.LedgerEntry.{LedgerEntry}
use Rattle.es_base.specs.declared.literal.LiteralValue.TheVariants as literal_value
use Rattle.es_steps.specs.Generated.{node}
use Rattle.es_steps.specs.Options.{options_of}
use Rattle.es_steps.specs.declared.options.Options.{Options}

-- `class C { x = 1; static { g(() => C); } } h(C, class { y = 1; });`
abbrev pub source_arrow_with_the_name_of_an_argument : Tree
source_arrow_with_the_name_of_an_argument = node Kind.Program 0 (more (string (codes "script")) (more (list (trees (node Kind.ClassDeclaration 1 (more (child (node Kind.BindingIdentifier 2 (more (string (codes "C")) end))) (more absent (more (child (node Kind.ClassBody 3 (more (list (trees (node Kind.PropertyDefinition 4 (more (child (node Kind.IdentifierName 5 (more (string (codes "x")) end))) (more (child (node Kind.Literal 6 (more (literal (literal_value.Number (codes "1"))) end))) (more (boolean false) (more (boolean false) end)))) ∷ node Kind.StaticBlock 7 (more (list (trees (node Kind.ExpressionStatement 8 (more (child (node Kind.CallExpression 9 (more (child (node Kind.IdentifierReference 10 (more (string (codes "g")) end))) (more (list (trees (node Kind.ArrowFunctionExpression 11 (more (list end) (more (child (node Kind.IdentifierReference 12 (more (string (codes "C")) end))) (more (boolean false) end))) ∷ []))) (more (boolean false) end))))) (more no_string end)) ∷ []))) end) ∷ []))) end))) end))) ∷ node Kind.ExpressionStatement 13 (more (child (node Kind.CallExpression 14 (more (child (node Kind.IdentifierReference 15 (more (string (codes "h")) end))) (more (list (trees (node Kind.IdentifierReference 16 (more (string (codes "C")) end) ∷ node Kind.ClassExpression 17 (more absent (more absent (more (child (node Kind.ClassBody 18 (more (list (trees (node Kind.PropertyDefinition 19 (more (child (node Kind.IdentifierName 20 (more (string (codes "y")) end))) (more (child (node Kind.Literal 21 (more (literal (literal_value.Number (codes "1"))) end))) (more (boolean false) (more (boolean false) end)))) ∷ []))) end))) end))) ∷ []))) (more (boolean false) end))))) (more no_string end)) ∷ []))) end))

-- an arrow of a static block in front of the class that it names, by a name that stood in an argument behind the class: `var _t; _t = (0, () => C); class C { constructor() { B.defineProperty(this, "x", 1); } static { g(_t); } } h(C, class { constructor() { B.defineProperty(this, "y", 1); } });`
abbrev pub output_arrow_with_the_name_of_an_argument : Tree
output_arrow_with_the_name_of_an_argument = node Kind.Program 0 (more (string (codes "script")) (more (list (trees (node Kind.VariableDeclaration 22 (more (string (codes "var")) (more (list (trees (node Kind.VariableDeclarator 23 (more (child (node Kind.BindingIdentifier 24 (more (string (codes "_t")) end))) (more absent end)) ∷ []))) end)) ∷ node Kind.ExpressionStatement 25 (more (child (node Kind.AssignmentExpression 26 (more (string (codes "=")) (more (child (node Kind.IdentifierReference 27 (more (string (codes "_t")) end))) (more (child (node Kind.SequenceExpression 28 (more (list (trees (node Kind.Literal 29 (more (literal (literal_value.Number (codes "0"))) end) ∷ node Kind.ArrowFunctionExpression 11 (more (list end) (more (child (node Kind.IdentifierReference 16 (more (string (codes "C")) end))) (more (boolean false) end))) ∷ []))) end))) end))))) (more no_string end)) ∷ node Kind.ClassDeclaration 1 (more (child (node Kind.BindingIdentifier 2 (more (string (codes "C")) end))) (more absent (more (child (node Kind.ClassBody 3 (more (list (trees (node Kind.MethodDefinition 30 (more (child (node Kind.IdentifierName 31 (more (string (codes "constructor")) end))) (more (child (node Kind.FunctionExpression 32 (more absent (more (list end) (more (child (node Kind.BlockStatement 33 (more (list (trees (node Kind.ExpressionStatement 34 (more (child (node Kind.CallExpression 35 (more (child (node Kind.MemberExpression 36 (more (child (node Kind.IdentifierReference 37 (more (string (codes "babelHelpers")) end))) (more (child (node Kind.IdentifierName 38 (more (string (codes "defineProperty")) end))) (more (boolean false) (more (boolean false) end)))))) (more (list (trees (node Kind.ThisExpression 39 end ∷ node Kind.Literal 40 (more (literal (literal_value.String (codes "x") None)) end) ∷ node Kind.Literal 6 (more (literal (literal_value.Number (codes "1"))) end) ∷ []))) (more (boolean false) end))))) (more no_string end)) ∷ []))) end))) (more (boolean false) (more (boolean false) end))))))) (more (string (codes "constructor")) (more (boolean false) (more (boolean false) end))))) ∷ node Kind.StaticBlock 7 (more (list (trees (node Kind.ExpressionStatement 8 (more (child (node Kind.CallExpression 9 (more (child (node Kind.IdentifierReference 10 (more (string (codes "g")) end))) (more (list (trees (node Kind.IdentifierReference 41 (more (string (codes "_t")) end) ∷ []))) (more (boolean false) end))))) (more no_string end)) ∷ []))) end) ∷ []))) end))) end))) ∷ node Kind.ExpressionStatement 13 (more (child (node Kind.CallExpression 14 (more (child (node Kind.IdentifierReference 15 (more (string (codes "h")) end))) (more (list (trees (node Kind.IdentifierReference 12 (more (string (codes "C")) end) ∷ node Kind.ClassExpression 17 (more absent (more absent (more (child (node Kind.ClassBody 18 (more (list (trees (node Kind.MethodDefinition 42 (more (child (node Kind.IdentifierName 43 (more (string (codes "constructor")) end))) (more (child (node Kind.FunctionExpression 44 (more absent (more (list end) (more (child (node Kind.BlockStatement 45 (more (list (trees (node Kind.ExpressionStatement 46 (more (child (node Kind.CallExpression 47 (more (child (node Kind.MemberExpression 48 (more (child (node Kind.IdentifierReference 49 (more (string (codes "babelHelpers")) end))) (more (child (node Kind.IdentifierName 50 (more (string (codes "defineProperty")) end))) (more (boolean false) (more (boolean false) end)))))) (more (list (trees (node Kind.ThisExpression 51 end ∷ node Kind.Literal 52 (more (literal (literal_value.String (codes "y") None)) end) ∷ node Kind.Literal 21 (more (literal (literal_value.Number (codes "1"))) end) ∷ []))) (more (boolean false) end))))) (more no_string end)) ∷ []))) end))) (more (boolean false) (more (boolean false) end))))))) (more (string (codes "constructor")) (more (boolean false) (more (boolean false) end))))) ∷ []))) end))) end))) ∷ []))) (more (boolean false) end))))) (more no_string end)) ∷ []))) end))

abbrev pub generated_arrow_with_the_name_of_an_argument : List LedgerEntry
generated_arrow_with_the_name_of_an_argument = record { name = codes "_t"; kind = GeneratedKind.Temp } ∷ []

abbrev pub options_arrow_with_the_name_of_an_argument : Options
options_arrow_with_the_name_of_an_argument = options_of false (Some (record { loose = false })) false
