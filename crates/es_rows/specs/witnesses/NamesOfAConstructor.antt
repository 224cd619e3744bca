-- Printed by tools/rows/witnesses.js.
use Rattle.std.specs.Prelude.{ℕ, List, [], ◌∷◌, false, codes, Some, None}
use Rattle.es_base.specs.Tree.{Tree, end, more, child, absent, list, string, no_string, boolean, literal, trees}
use Rattle.es_base.specs.declared.kind.Kind.{Kind}
use Rattle.es_base.specs.declared.ledger.LedgerEntry.{LedgerEntry}
use Rattle.es_base.specs.declared.literal.LiteralValue.TheVariants as literal_value
use Rattle.es_steps.specs.Generated.{node}
use Rattle.es_steps.specs.Options.{options_of}
use Rattle.es_steps.specs.declared.options.Options.{Options}

-- `class A extends P { x = 1; constructor() { super(); { let a = f(); g(a); { var b; } } } }`
abbrev pub source_names_of_a_constructor : Tree
source_names_of_a_constructor = node Kind.Program 0 (more (string (codes "script")) (more (list (trees (node Kind.ClassDeclaration 1 (more (child (node Kind.BindingIdentifier 2 (more (string (codes "A")) end))) (more (child (node Kind.IdentifierReference 3 (more (string (codes "P")) end))) (more (child (node Kind.ClassBody 4 (more (list (trees (node Kind.PropertyDefinition 5 (more (child (node Kind.IdentifierName 6 (more (string (codes "x")) end))) (more (child (node Kind.Literal 7 (more (literal (literal_value.Number (codes "1"))) end))) (more (boolean false) (more (boolean false) end)))) ∷ node Kind.MethodDefinition 8 (more (child (node Kind.IdentifierName 9 (more (string (codes "constructor")) end))) (more (child (node Kind.FunctionExpression 10 (more absent (more (list end) (more (child (node Kind.BlockStatement 11 (more (list (trees (node Kind.ExpressionStatement 12 (more (child (node Kind.CallExpression 13 (more (child (node Kind.Super 14 end)) (more (list end) (more (boolean false) end))))) (more no_string end)) ∷ node Kind.BlockStatement 15 (more (list (trees (node Kind.VariableDeclaration 16 (more (string (codes "let")) (more (list (trees (node Kind.VariableDeclarator 17 (more (child (node Kind.BindingIdentifier 18 (more (string (codes "a")) end))) (more (child (node Kind.CallExpression 19 (more (child (node Kind.IdentifierReference 20 (more (string (codes "f")) end))) (more (list end) (more (boolean false) end))))) end)) ∷ []))) end)) ∷ node Kind.ExpressionStatement 21 (more (child (node Kind.CallExpression 22 (more (child (node Kind.IdentifierReference 23 (more (string (codes "g")) end))) (more (list (trees (node Kind.IdentifierReference 24 (more (string (codes "a")) end) ∷ []))) (more (boolean false) end))))) (more no_string end)) ∷ node Kind.BlockStatement 25 (more (list (trees (node Kind.VariableDeclaration 26 (more (string (codes "var")) (more (list (trees (node Kind.VariableDeclarator 27 (more (child (node Kind.BindingIdentifier 28 (more (string (codes "b")) end))) (more absent end)) ∷ []))) end)) ∷ []))) end) ∷ []))) end) ∷ []))) end))) (more (boolean false) (more (boolean false) end))))))) (more (string (codes "constructor")) (more (boolean false) (more (boolean false) end))))) ∷ []))) end))) end))) ∷ []))) end))

-- two names of a constructor renamed to one, of which one is hoisted past the other, where `class A extends P { constructor() { super(); B.defineProperty(this, "x", 1); { let a = f(); g(a); { var b; } } } }` is right
abbrev pub output_names_of_a_constructor : Tree
output_names_of_a_constructor = node Kind.Program 0 (more (string (codes "script")) (more (list (trees (node Kind.ClassDeclaration 1 (more (child (node Kind.BindingIdentifier 2 (more (string (codes "A")) end))) (more (child (node Kind.IdentifierReference 3 (more (string (codes "P")) end))) (more (child (node Kind.ClassBody 4 (more (list (trees (node Kind.MethodDefinition 8 (more (child (node Kind.IdentifierName 9 (more (string (codes "constructor")) end))) (more (child (node Kind.FunctionExpression 10 (more absent (more (list end) (more (child (node Kind.BlockStatement 11 (more (list (trees (node Kind.ExpressionStatement 12 (more (child (node Kind.CallExpression 13 (more (child (node Kind.Super 14 end)) (more (list end) (more (boolean false) end))))) (more no_string end)) ∷ node Kind.ExpressionStatement 29 (more (child (node Kind.CallExpression 30 (more (child (node Kind.MemberExpression 31 (more (child (node Kind.IdentifierReference 32 (more (string (codes "babelHelpers")) end))) (more (child (node Kind.IdentifierName 33 (more (string (codes "defineProperty")) end))) (more (boolean false) (more (boolean false) end)))))) (more (list (trees (node Kind.ThisExpression 34 end ∷ node Kind.Literal 35 (more (literal (literal_value.String (codes "x") None)) end) ∷ node Kind.Literal 7 (more (literal (literal_value.Number (codes "1"))) end) ∷ []))) (more (boolean false) end))))) (more no_string end)) ∷ node Kind.BlockStatement 15 (more (list (trees (node Kind.VariableDeclaration 16 (more (string (codes "let")) (more (list (trees (node Kind.VariableDeclarator 17 (more (child (node Kind.BindingIdentifier 18 (more (string (codes "_a")) end))) (more (child (node Kind.CallExpression 19 (more (child (node Kind.IdentifierReference 20 (more (string (codes "f")) end))) (more (list end) (more (boolean false) end))))) end)) ∷ []))) end)) ∷ node Kind.ExpressionStatement 21 (more (child (node Kind.CallExpression 22 (more (child (node Kind.IdentifierReference 23 (more (string (codes "g")) end))) (more (list (trees (node Kind.IdentifierReference 24 (more (string (codes "_a")) end) ∷ []))) (more (boolean false) end))))) (more no_string end)) ∷ node Kind.BlockStatement 25 (more (list (trees (node Kind.VariableDeclaration 26 (more (string (codes "var")) (more (list (trees (node Kind.VariableDeclarator 27 (more (child (node Kind.BindingIdentifier 28 (more (string (codes "_a")) end))) (more absent end)) ∷ []))) end)) ∷ []))) end) ∷ []))) end) ∷ []))) end))) (more (boolean false) (more (boolean false) end))))))) (more (string (codes "constructor")) (more (boolean false) (more (boolean false) end))))) ∷ []))) end))) end))) ∷ []))) end))

abbrev pub generated_names_of_a_constructor : List LedgerEntry
generated_names_of_a_constructor = []

abbrev pub options_names_of_a_constructor : Options
options_names_of_a_constructor = options_of false (Some (record { loose = false })) false
