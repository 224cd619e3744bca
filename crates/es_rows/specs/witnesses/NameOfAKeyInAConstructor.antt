-- Printed by tools/rows/witnesses.js.
use Rattle.std.specs.Prelude.{ℕ, List, [], ◌∷◌, true, false, codes, Some, None}
use Rattle.es_base.specs.Tree.{Tree, end, more, child, absent, list, string, no_string, boolean, literal, trees}
use Rattle.es_base.specs.declared.kind.Kind.{Kind}
use Rattle.es_base.specs.declared.ledger.LedgerEntry.{LedgerEntry}
use Rattle.es_base.specs.declared.literal.LiteralValue.TheVariants as literal_value
use Rattle.es_steps.specs.Generated.{node}
use Rattle.es_steps.specs.Options.{options_of}
use Rattle.es_steps.specs.declared.options.Options.{Options}

-- `class A { [c ? g : 1]() { } x = 1; } new A(); let g = f();`
abbrev pub source_name_of_a_key_in_a_constructor : Tree
source_name_of_a_key_in_a_constructor = node Kind.Program 0 (more (string (codes "script")) (more (list (trees (node Kind.ClassDeclaration 1 (more (child (node Kind.BindingIdentifier 2 (more (string (codes "A")) end))) (more absent (more (child (node Kind.ClassBody 3 (more (list (trees (node Kind.MethodDefinition 4 (more (child (node Kind.ConditionalExpression 5 (more (child (node Kind.IdentifierReference 6 (more (string (codes "c")) end))) (more (child (node Kind.IdentifierReference 7 (more (string (codes "g")) end))) (more (child (node Kind.Literal 8 (more (literal (literal_value.Number (codes "1"))) end))) end))))) (more (child (node Kind.FunctionExpression 9 (more absent (more (list end) (more (child (node Kind.BlockStatement 10 (more (list end) end))) (more (boolean false) (more (boolean false) end))))))) (more (string (codes "method")) (more (boolean true) (more (boolean false) end))))) ∷ node Kind.PropertyDefinition 11 (more (child (node Kind.IdentifierName 12 (more (string (codes "x")) end))) (more (child (node Kind.Literal 13 (more (literal (literal_value.Number (codes "1"))) end))) (more (boolean false) (more (boolean false) end)))) ∷ []))) end))) end))) ∷ node Kind.ExpressionStatement 14 (more (child (node Kind.NewExpression 15 (more (child (node Kind.IdentifierReference 16 (more (string (codes "A")) end))) (more (list end) end)))) (more no_string end)) ∷ node Kind.VariableDeclaration 17 (more (string (codes "let")) (more (list (trees (node Kind.VariableDeclarator 18 (more (child (node Kind.BindingIdentifier 19 (more (string (codes "g")) end))) (more (child (node Kind.CallExpression 20 (more (child (node Kind.IdentifierReference 21 (more (string (codes "f")) end))) (more (list end) (more (boolean false) end))))) end)) ∷ []))) end)) ∷ []))) end))

-- a constructor reads again a name that a key reads in a branch: `class A { [c ? g : 1]() { } constructor() { g; B.defineProperty(this, "x", 1); } } new A(); let g = f();`
abbrev pub output_name_of_a_key_in_a_constructor : Tree
output_name_of_a_key_in_a_constructor = node Kind.Program 0 (more (string (codes "script")) (more (list (trees (node Kind.ClassDeclaration 1 (more (child (node Kind.BindingIdentifier 2 (more (string (codes "A")) end))) (more absent (more (child (node Kind.ClassBody 3 (more (list (trees (node Kind.MethodDefinition 4 (more (child (node Kind.ConditionalExpression 5 (more (child (node Kind.IdentifierReference 6 (more (string (codes "c")) end))) (more (child (node Kind.IdentifierReference 7 (more (string (codes "g")) end))) (more (child (node Kind.Literal 8 (more (literal (literal_value.Number (codes "1"))) end))) end))))) (more (child (node Kind.FunctionExpression 9 (more absent (more (list end) (more (child (node Kind.BlockStatement 10 (more (list end) end))) (more (boolean false) (more (boolean false) end))))))) (more (string (codes "method")) (more (boolean true) (more (boolean false) end))))) ∷ node Kind.MethodDefinition 22 (more (child (node Kind.IdentifierName 23 (more (string (codes "constructor")) end))) (more (child (node Kind.FunctionExpression 24 (more absent (more (list end) (more (child (node Kind.BlockStatement 25 (more (list (trees (node Kind.ExpressionStatement 26 (more (child (node Kind.IdentifierReference 27 (more (string (codes "g")) end))) (more no_string end)) ∷ node Kind.ExpressionStatement 28 (more (child (node Kind.CallExpression 29 (more (child (node Kind.MemberExpression 30 (more (child (node Kind.IdentifierReference 31 (more (string (codes "babelHelpers")) end))) (more (child (node Kind.IdentifierName 32 (more (string (codes "defineProperty")) end))) (more (boolean false) (more (boolean false) end)))))) (more (list (trees (node Kind.ThisExpression 33 end ∷ node Kind.Literal 34 (more (literal (literal_value.String (codes "x") None)) end) ∷ node Kind.Literal 13 (more (literal (literal_value.Number (codes "1"))) end) ∷ []))) (more (boolean false) end))))) (more no_string end)) ∷ []))) end))) (more (boolean false) (more (boolean false) end))))))) (more (string (codes "constructor")) (more (boolean false) (more (boolean false) end))))) ∷ []))) end))) end))) ∷ node Kind.ExpressionStatement 14 (more (child (node Kind.NewExpression 15 (more (child (node Kind.IdentifierReference 16 (more (string (codes "A")) end))) (more (list end) end)))) (more no_string end)) ∷ node Kind.VariableDeclaration 17 (more (string (codes "let")) (more (list (trees (node Kind.VariableDeclarator 18 (more (child (node Kind.BindingIdentifier 19 (more (string (codes "g")) end))) (more (child (node Kind.CallExpression 20 (more (child (node Kind.IdentifierReference 21 (more (string (codes "f")) end))) (more (list end) (more (boolean false) end))))) end)) ∷ []))) end)) ∷ []))) end))

abbrev pub generated_name_of_a_key_in_a_constructor : List LedgerEntry
generated_name_of_a_key_in_a_constructor = []

abbrev pub options_name_of_a_key_in_a_constructor : Options
options_name_of_a_key_in_a_constructor = options_of false (Some (record { loose = false })) false
