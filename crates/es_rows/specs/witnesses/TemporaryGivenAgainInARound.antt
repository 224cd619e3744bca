-- Printed by tools/rows/witnesses.js.
use Rattle.std.specs.Prelude.{ℕ, List, [], ◌∷◌, false, codes, Some, None}
use Rattle.es_base.specs.Tree.{Tree, end, more, child, absent, list, string, no_string, boolean, literal, trees}
use Rattle.es_base.specs.declared.kind.Kind.{Kind}
use Rattle.es_base.specs.declared.ledger.GeneratedKind.{GeneratedKind}
use Rattle.es_base.specs.declared.ledger.LedgerEntry.{LedgerEntry}
use Rattle.es_base.specs.declared.literal.LiteralValue.TheVariants as literal_value
use Rattle.es_steps.specs.Generated.{node}
use Rattle.es_steps.specs.Options.{options_of}
use Rattle.es_steps.specs.declared.options.Options.{Options}

-- ` class D { x = 1; m(h, c) { for (g(); c(); ) h(1, c()); } }`
abbrev pub source_temporary_given_again_in_a_round : Tree
source_temporary_given_again_in_a_round = node Kind.Program 0 (more (string (codes "script")) (more (list (trees (node Kind.ClassDeclaration 1 (more (child (node Kind.BindingIdentifier 2 (more (string (codes "D")) end))) (more absent (more (child (node Kind.ClassBody 3 (more (list (trees (node Kind.PropertyDefinition 4 (more (child (node Kind.IdentifierName 5 (more (string (codes "x")) end))) (more (child (node Kind.Literal 6 (more (literal (literal_value.Number (codes "1"))) end))) (more (boolean false) (more (boolean false) end)))) ∷ node Kind.MethodDefinition 7 (more (child (node Kind.IdentifierName 8 (more (string (codes "m")) end))) (more (child (node Kind.FunctionExpression 9 (more absent (more (list (trees (node Kind.BindingIdentifier 10 (more (string (codes "h")) end) ∷ node Kind.BindingIdentifier 11 (more (string (codes "c")) end) ∷ []))) (more (child (node Kind.BlockStatement 12 (more (list (trees (node Kind.ForStatement 13 (more (child (node Kind.CallExpression 14 (more (child (node Kind.IdentifierReference 15 (more (string (codes "g")) end))) (more (list end) (more (boolean false) end))))) (more (child (node Kind.CallExpression 16 (more (child (node Kind.IdentifierReference 17 (more (string (codes "c")) end))) (more (list end) (more (boolean false) end))))) (more absent (more (child (node Kind.ExpressionStatement 18 (more (child (node Kind.CallExpression 19 (more (child (node Kind.IdentifierReference 20 (more (string (codes "h")) end))) (more (list (trees (node Kind.Literal 21 (more (literal (literal_value.Number (codes "1"))) end) ∷ node Kind.CallExpression 22 (more (child (node Kind.IdentifierReference 23 (more (string (codes "c")) end))) (more (list end) (more (boolean false) end))) ∷ []))) (more (boolean false) end))))) (more no_string end)))) end)))) ∷ []))) end))) (more (boolean false) (more (boolean false) end))))))) (more (string (codes "method")) (more (boolean false) (more (boolean false) end))))) ∷ []))) end))) end))) ∷ []))) end))

-- a temporary given again in each round of a loop, where ` class D { constructor() { B.defineProperty(this, "x", 1); } m(h, c) { for (g(); c(); ) h(1, c()); } }` is right
abbrev pub output_temporary_given_again_in_a_round : Tree
output_temporary_given_again_in_a_round = node Kind.Program 0 (more (string (codes "script")) (more (list (trees (node Kind.ClassDeclaration 1 (more (child (node Kind.BindingIdentifier 2 (more (string (codes "D")) end))) (more absent (more (child (node Kind.ClassBody 3 (more (list (trees (node Kind.MethodDefinition 24 (more (child (node Kind.IdentifierName 25 (more (string (codes "constructor")) end))) (more (child (node Kind.FunctionExpression 26 (more absent (more (list end) (more (child (node Kind.BlockStatement 27 (more (list (trees (node Kind.ExpressionStatement 28 (more (child (node Kind.CallExpression 29 (more (child (node Kind.MemberExpression 30 (more (child (node Kind.IdentifierReference 31 (more (string (codes "babelHelpers")) end))) (more (child (node Kind.IdentifierName 32 (more (string (codes "defineProperty")) end))) (more (boolean false) (more (boolean false) end)))))) (more (list (trees (node Kind.ThisExpression 33 end ∷ node Kind.Literal 34 (more (literal (literal_value.String (codes "x") None)) end) ∷ node Kind.Literal 6 (more (literal (literal_value.Number (codes "1"))) end) ∷ []))) (more (boolean false) end))))) (more no_string end)) ∷ []))) end))) (more (boolean false) (more (boolean false) end))))))) (more (string (codes "constructor")) (more (boolean false) (more (boolean false) end))))) ∷ node Kind.MethodDefinition 7 (more (child (node Kind.IdentifierName 8 (more (string (codes "m")) end))) (more (child (node Kind.FunctionExpression 9 (more absent (more (list (trees (node Kind.BindingIdentifier 10 (more (string (codes "h")) end) ∷ node Kind.BindingIdentifier 11 (more (string (codes "c")) end) ∷ []))) (more (child (node Kind.BlockStatement 12 (more (list (trees (node Kind.VariableDeclaration 35 (more (string (codes "var")) (more (list (trees (node Kind.VariableDeclarator 36 (more (child (node Kind.BindingIdentifier 37 (more (string (codes "_t")) end))) (more absent end)) ∷ []))) end)) ∷ node Kind.ForStatement 13 (more (child (node Kind.SequenceExpression 38 (more (list (trees (node Kind.AssignmentExpression 39 (more (string (codes "=")) (more (child (node Kind.IdentifierReference 40 (more (string (codes "_t")) end))) (more (child (node Kind.Literal 21 (more (literal (literal_value.Number (codes "1"))) end))) end))) ∷ node Kind.CallExpression 14 (more (child (node Kind.IdentifierReference 15 (more (string (codes "g")) end))) (more (list end) (more (boolean false) end))) ∷ []))) end))) (more (child (node Kind.CallExpression 16 (more (child (node Kind.IdentifierReference 17 (more (string (codes "c")) end))) (more (list end) (more (boolean false) end))))) (more absent (more (child (node Kind.ExpressionStatement 18 (more (child (node Kind.CallExpression 19 (more (child (node Kind.IdentifierReference 20 (more (string (codes "h")) end))) (more (list (trees (node Kind.IdentifierReference 41 (more (string (codes "_t")) end) ∷ node Kind.AssignmentExpression 42 (more (string (codes "=")) (more (child (node Kind.IdentifierReference 43 (more (string (codes "_t")) end))) (more (child (node Kind.CallExpression 22 (more (child (node Kind.IdentifierReference 23 (more (string (codes "c")) end))) (more (list end) (more (boolean false) end))))) end))) ∷ []))) (more (boolean false) end))))) (more no_string end)))) end)))) ∷ []))) end))) (more (boolean false) (more (boolean false) end))))))) (more (string (codes "method")) (more (boolean false) (more (boolean false) end))))) ∷ []))) end))) end))) ∷ []))) end))

abbrev pub generated_temporary_given_again_in_a_round : List LedgerEntry
generated_temporary_given_again_in_a_round = record { name = codes "_t"; kind = GeneratedKind.Temp } ∷ []

abbrev pub options_temporary_given_again_in_a_round : Options
options_temporary_given_again_in_a_round = options_of false (Some (record { loose = false })) false
