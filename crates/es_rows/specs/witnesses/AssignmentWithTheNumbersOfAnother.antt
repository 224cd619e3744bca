-- Printed by tools/rows/witnesses.js.
use Rattle.std.specs.Prelude.{ℕ, List, [], ◌∷◌, true, false, codes, Some}
use Rattle.es_base.specs.Tree.{Tree, end, more, child, absent, list, string, no_string, boolean, literal, trees}
use Rattle.es_base.specs.declared.kind.Kind.{Kind}
use Rattle.es_base.specs.declared.ledger.GeneratedKind.{GeneratedKind}
use Rattle.es_base.specs.declared.ledger.LedgerEntry.{LedgerEntry}
use Rattle.es_base.specs.declared.literal.LiteralValue.TheVariants as literal_value
use Rattle.es_steps.specs.Generated.{node}
use Rattle.es_steps.specs.Options.{options_of}
use Rattle.es_steps.specs.declared.options.Options.{Options}

-- `function h(o) { g((o.x = 1, class { static { o.x = 1; } [k()]() {} })); }`
abbrev pub source_assignment_with_the_numbers_of_another : Tree
source_assignment_with_the_numbers_of_another = node Kind.Program 0 (more (string (codes "script")) (more (list (trees (node Kind.FunctionDeclaration 1 (more (child (node Kind.BindingIdentifier 2 (more (string (codes "h")) end))) (more (list (trees (node Kind.BindingIdentifier 3 (more (string (codes "o")) end) ∷ []))) (more (child (node Kind.BlockStatement 4 (more (list (trees (node Kind.ExpressionStatement 5 (more (child (node Kind.CallExpression 6 (more (child (node Kind.IdentifierReference 7 (more (string (codes "g")) end))) (more (list (trees (node Kind.SequenceExpression 8 (more (list (trees (node Kind.AssignmentExpression 9 (more (string (codes "=")) (more (child (node Kind.MemberExpression 10 (more (child (node Kind.IdentifierReference 11 (more (string (codes "o")) end))) (more (child (node Kind.IdentifierName 12 (more (string (codes "x")) end))) (more (boolean false) (more (boolean false) end)))))) (more (child (node Kind.Literal 13 (more (literal (literal_value.Number (codes "1"))) end))) end))) ∷ node Kind.ClassExpression 14 (more absent (more absent (more (child (node Kind.ClassBody 15 (more (list (trees (node Kind.StaticBlock 16 (more (list (trees (node Kind.ExpressionStatement 17 (more (child (node Kind.AssignmentExpression 18 (more (string (codes "=")) (more (child (node Kind.MemberExpression 19 (more (child (node Kind.IdentifierReference 20 (more (string (codes "o")) end))) (more (child (node Kind.IdentifierName 21 (more (string (codes "x")) end))) (more (boolean false) (more (boolean false) end)))))) (more (child (node Kind.Literal 22 (more (literal (literal_value.Number (codes "1"))) end))) end))))) (more no_string end)) ∷ []))) end) ∷ node Kind.MethodDefinition 23 (more (child (node Kind.CallExpression 24 (more (child (node Kind.IdentifierReference 25 (more (string (codes "k")) end))) (more (list end) (more (boolean false) end))))) (more (child (node Kind.FunctionExpression 26 (more absent (more (list end) (more (child (node Kind.BlockStatement 27 (more (list end) end))) (more (boolean false) (more (boolean false) end))))))) (more (string (codes "method")) (more (boolean true) (more (boolean false) end))))) ∷ []))) end))) end))) ∷ []))) end) ∷ []))) (more (boolean false) end))))) (more no_string end)) ∷ []))) end))) (more (boolean false) (more (boolean false) end))))) ∷ []))) end))

-- an assignment to a member that becomes strict, with the numbers of one in a static block: `function h(o) { var _A; g((_A = class { [(o.x = 1, k())]() {} }, o.x = 1, _A)); }`
abbrev pub output_assignment_with_the_numbers_of_another : Tree
output_assignment_with_the_numbers_of_another = node Kind.Program 0 (more (string (codes "script")) (more (list (trees (node Kind.FunctionDeclaration 1 (more (child (node Kind.BindingIdentifier 2 (more (string (codes "h")) end))) (more (list (trees (node Kind.BindingIdentifier 3 (more (string (codes "o")) end) ∷ []))) (more (child (node Kind.BlockStatement 4 (more (list (trees (node Kind.VariableDeclaration 28 (more (string (codes "var")) (more (list (trees (node Kind.VariableDeclarator 29 (more (child (node Kind.BindingIdentifier 30 (more (string (codes "_A")) end))) (more absent end)) ∷ []))) end)) ∷ node Kind.ExpressionStatement 5 (more (child (node Kind.CallExpression 6 (more (child (node Kind.IdentifierReference 7 (more (string (codes "g")) end))) (more (list (trees (node Kind.SequenceExpression 31 (more (list (trees (node Kind.AssignmentExpression 32 (more (string (codes "=")) (more (child (node Kind.IdentifierReference 33 (more (string (codes "_A")) end))) (more (child (node Kind.ClassExpression 14 (more absent (more absent (more (child (node Kind.ClassBody 15 (more (list (trees (node Kind.MethodDefinition 23 (more (child (node Kind.SequenceExpression 34 (more (list (trees (node Kind.AssignmentExpression 18 (more (string (codes "=")) (more (child (node Kind.MemberExpression 19 (more (child (node Kind.IdentifierReference 20 (more (string (codes "o")) end))) (more (child (node Kind.IdentifierName 21 (more (string (codes "x")) end))) (more (boolean false) (more (boolean false) end)))))) (more (child (node Kind.Literal 22 (more (literal (literal_value.Number (codes "1"))) end))) end))) ∷ node Kind.CallExpression 24 (more (child (node Kind.IdentifierReference 25 (more (string (codes "k")) end))) (more (list end) (more (boolean false) end))) ∷ []))) end))) (more (child (node Kind.FunctionExpression 26 (more absent (more (list end) (more (child (node Kind.BlockStatement 27 (more (list end) end))) (more (boolean false) (more (boolean false) end))))))) (more (string (codes "method")) (more (boolean true) (more (boolean false) end))))) ∷ []))) end))) end))))) end))) ∷ node Kind.AssignmentExpression 35 (more (string (codes "=")) (more (child (node Kind.MemberExpression 36 (more (child (node Kind.IdentifierReference 37 (more (string (codes "o")) end))) (more (child (node Kind.IdentifierName 38 (more (string (codes "x")) end))) (more (boolean false) (more (boolean false) end)))))) (more (child (node Kind.Literal 39 (more (literal (literal_value.Number (codes "1"))) end))) end))) ∷ node Kind.IdentifierReference 40 (more (string (codes "_A")) end) ∷ []))) end) ∷ []))) (more (boolean false) end))))) (more no_string end)) ∷ []))) end))) (more (boolean false) (more (boolean false) end))))) ∷ []))) end))

abbrev pub generated_assignment_with_the_numbers_of_another : List LedgerEntry
generated_assignment_with_the_numbers_of_another = record { name = codes "_A"; kind = GeneratedKind.ClassTemp (record { 0 = 14 }) } ∷ []

abbrev pub options_assignment_with_the_numbers_of_another : Options
options_assignment_with_the_numbers_of_another = options_of true (Some (record { loose = false })) false
