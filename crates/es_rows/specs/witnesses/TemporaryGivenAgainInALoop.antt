-- Printed by tools/rows/witnesses.js.
use Rattle.std.specs.Prelude.{ℕ, List, [], ◌∷◌, false, codes, Some, None}
use Rattle.es_base.specs.Tree.{Tree, end, more, child, absent, list, string, no_string, boolean, literal, trees}
use Rattle.es_base.specs.declared.kind.Kind.{Kind}
use Rattle.es_base.specs.declared.ledger.GeneratedKind.{GeneratedKind}
use Rattle.es_base.specs.declared.ledger.LedgerEntry.{LedgerEntry}
use Rattle.es_base.specs.declared.literal.LiteralValue.TheVariants as literal_value
use Rattle.es_steps.specs.Generated.{node}
use Rattle.es_steps.specs.Options.{options_of}
use Rattle.es_steps.specs.declared.options.Options.{Options}

-- ` class D { x = 1; m() { for (; c();) { h(5); } } }`
abbrev pub source_temporary_given_again_in_a_loop : Tree
source_temporary_given_again_in_a_loop = node Kind.Program 0 (more (string (codes "script")) (more (list (trees (node Kind.ClassDeclaration 1 (more (child (node Kind.BindingIdentifier 2 (more (string (codes "D")) end))) (more absent (more (child (node Kind.ClassBody 3 (more (list (trees (node Kind.PropertyDefinition 4 (more (child (node Kind.IdentifierName 5 (more (string (codes "x")) end))) (more (child (node Kind.Literal 6 (more (literal (literal_value.Number (codes "1"))) end))) (more (boolean false) (more (boolean false) end)))) ∷ node Kind.MethodDefinition 7 (more (child (node Kind.IdentifierName 8 (more (string (codes "m")) end))) (more (child (node Kind.FunctionExpression 9 (more absent (more (list end) (more (child (node Kind.BlockStatement 10 (more (list (trees (node Kind.ForStatement 11 (more absent (more (child (node Kind.CallExpression 12 (more (child (node Kind.IdentifierReference 13 (more (string (codes "c")) end))) (more (list end) (more (boolean false) end))))) (more absent (more (child (node Kind.BlockStatement 14 (more (list (trees (node Kind.ExpressionStatement 15 (more (child (node Kind.CallExpression 16 (more (child (node Kind.IdentifierReference 17 (more (string (codes "h")) end))) (more (list (trees (node Kind.Literal 18 (more (literal (literal_value.Number (codes "5"))) end) ∷ []))) (more (boolean false) end))))) (more no_string end)) ∷ []))) end))) end)))) ∷ []))) end))) (more (boolean false) (more (boolean false) end))))))) (more (string (codes "method")) (more (boolean false) (more (boolean false) end))))) ∷ []))) end))) end))) ∷ []))) end))

-- a temporary given again in a loop, where ` class D { constructor() { B.defineProperty(this, "x", 1); } m() { for (; c();) { h(5); } } }` is right
abbrev pub output_temporary_given_again_in_a_loop : Tree
output_temporary_given_again_in_a_loop = node Kind.Program 0 (more (string (codes "script")) (more (list (trees (node Kind.ClassDeclaration 1 (more (child (node Kind.BindingIdentifier 2 (more (string (codes "D")) end))) (more absent (more (child (node Kind.ClassBody 3 (more (list (trees (node Kind.MethodDefinition 19 (more (child (node Kind.IdentifierName 20 (more (string (codes "constructor")) end))) (more (child (node Kind.FunctionExpression 21 (more absent (more (list end) (more (child (node Kind.BlockStatement 22 (more (list (trees (node Kind.ExpressionStatement 23 (more (child (node Kind.CallExpression 24 (more (child (node Kind.MemberExpression 25 (more (child (node Kind.IdentifierReference 26 (more (string (codes "babelHelpers")) end))) (more (child (node Kind.IdentifierName 27 (more (string (codes "defineProperty")) end))) (more (boolean false) (more (boolean false) end)))))) (more (list (trees (node Kind.ThisExpression 28 end ∷ node Kind.Literal 29 (more (literal (literal_value.String (codes "x") None)) end) ∷ node Kind.Literal 6 (more (literal (literal_value.Number (codes "1"))) end) ∷ []))) (more (boolean false) end))))) (more no_string end)) ∷ []))) end))) (more (boolean false) (more (boolean false) end))))))) (more (string (codes "constructor")) (more (boolean false) (more (boolean false) end))))) ∷ node Kind.MethodDefinition 7 (more (child (node Kind.IdentifierName 8 (more (string (codes "m")) end))) (more (child (node Kind.FunctionExpression 9 (more absent (more (list end) (more (child (node Kind.BlockStatement 10 (more (list (trees (node Kind.VariableDeclaration 30 (more (string (codes "var")) (more (list (trees (node Kind.VariableDeclarator 31 (more (child (node Kind.BindingIdentifier 32 (more (string (codes "_t")) end))) (more absent end)) ∷ []))) end)) ∷ node Kind.ExpressionStatement 33 (more (child (node Kind.AssignmentExpression 34 (more (string (codes "=")) (more (child (node Kind.IdentifierReference 35 (more (string (codes "_t")) end))) (more (child (node Kind.Literal 18 (more (literal (literal_value.Number (codes "5"))) end))) end))))) (more no_string end)) ∷ node Kind.ForStatement 11 (more absent (more (child (node Kind.CallExpression 12 (more (child (node Kind.IdentifierReference 13 (more (string (codes "c")) end))) (more (list end) (more (boolean false) end))))) (more absent (more (child (node Kind.BlockStatement 14 (more (list (trees (node Kind.ExpressionStatement 15 (more (child (node Kind.CallExpression 16 (more (child (node Kind.IdentifierReference 17 (more (string (codes "h")) end))) (more (list (trees (node Kind.IdentifierReference 36 (more (string (codes "_t")) end) ∷ []))) (more (boolean false) end))))) (more no_string end)) ∷ node Kind.ExpressionStatement 37 (more (child (node Kind.AssignmentExpression 38 (more (string (codes "=")) (more (child (node Kind.IdentifierReference 39 (more (string (codes "_t")) end))) (more (child (node Kind.Literal 40 (more (literal (literal_value.Number (codes "6"))) end))) end))))) (more no_string end)) ∷ []))) end))) end)))) ∷ []))) end))) (more (boolean false) (more (boolean false) end))))))) (more (string (codes "method")) (more (boolean false) (more (boolean false) end))))) ∷ []))) end))) end))) ∷ []))) end))

abbrev pub generated_temporary_given_again_in_a_loop : List LedgerEntry
generated_temporary_given_again_in_a_loop = record { name = codes "_t"; kind = GeneratedKind.Temp } ∷ []

abbrev pub options_temporary_given_again_in_a_loop : Options
options_temporary_given_again_in_a_loop = options_of false (Some (record { loose = false })) false
