-- Printed by tools/rows/witnesses.js.
use Rattle.std.specs.Prelude.{ℕ, List, [], ◌∷◌, true, false, codes, None}
use Rattle.es_base.specs.Tree.{Tree, end, more, child, absent, list, string, no_string, boolean, literal, trees}
use Rattle.es_base.specs.declared.kind.Kind.{Kind}
use Rattle.es_base.specs.declared.ledger.GeneratedKind.{GeneratedKind}
use Rattle.es_base.specs.declared.ledger.LedgerEntry.{LedgerEntry}
use Rattle.es_base.specs.declared.literal.LiteralValue.TheVariants as literal_value
use Rattle.es_steps.specs.Generated.{node}
use Rattle.es_steps.specs.Options.{options_of}
use Rattle.es_steps.specs.declared.options.Options.{Options}

-- `let o = 5; g((o.x = 1, class extends P { static { f(1); } }));`
abbrev pub source_assignment_in_a_heritage : Tree
source_assignment_in_a_heritage = node Kind.Program 0 (more (string (codes "script")) (more (list (trees (node Kind.VariableDeclaration 1 (more (string (codes "let")) (more (list (trees (node Kind.VariableDeclarator 2 (more (child (node Kind.BindingIdentifier 3 (more (string (codes "o")) end))) (more (child (node Kind.Literal 4 (more (literal (literal_value.Number (codes "5"))) end))) end)) ∷ []))) end)) ∷ node Kind.ExpressionStatement 5 (more (child (node Kind.CallExpression 6 (more (child (node Kind.IdentifierReference 7 (more (string (codes "g")) end))) (more (list (trees (node Kind.SequenceExpression 8 (more (list (trees (node Kind.AssignmentExpression 9 (more (string (codes "=")) (more (child (node Kind.MemberExpression 10 (more (child (node Kind.IdentifierReference 11 (more (string (codes "o")) end))) (more (child (node Kind.IdentifierName 12 (more (string (codes "x")) end))) (more (boolean false) (more (boolean false) end)))))) (more (child (node Kind.Literal 13 (more (literal (literal_value.Number (codes "1"))) end))) end))) ∷ node Kind.ClassExpression 14 (more absent (more (child (node Kind.IdentifierReference 15 (more (string (codes "P")) end))) (more (child (node Kind.ClassBody 16 (more (list (trees (node Kind.StaticBlock 17 (more (list (trees (node Kind.ExpressionStatement 18 (more (child (node Kind.CallExpression 19 (more (child (node Kind.IdentifierReference 20 (more (string (codes "f")) end))) (more (list (trees (node Kind.Literal 21 (more (literal (literal_value.Number (codes "1"))) end) ∷ []))) (more (boolean false) end))))) (more no_string end)) ∷ []))) end) ∷ []))) end))) end))) ∷ []))) end) ∷ []))) (more (boolean false) end))))) (more no_string end)) ∷ []))) end))

-- a new assignment to a member, in a heritage, where code is strict: `let o = 5; g(class extends (o.x = 1, P) { static #_ = f(1); });`
abbrev pub output_assignment_in_a_heritage : Tree
output_assignment_in_a_heritage = node Kind.Program 0 (more (string (codes "script")) (more (list (trees (node Kind.VariableDeclaration 1 (more (string (codes "let")) (more (list (trees (node Kind.VariableDeclarator 2 (more (child (node Kind.BindingIdentifier 3 (more (string (codes "o")) end))) (more (child (node Kind.Literal 4 (more (literal (literal_value.Number (codes "5"))) end))) end)) ∷ []))) end)) ∷ node Kind.ExpressionStatement 5 (more (child (node Kind.CallExpression 6 (more (child (node Kind.IdentifierReference 7 (more (string (codes "g")) end))) (more (list (trees (node Kind.ClassExpression 14 (more absent (more (child (node Kind.SequenceExpression 22 (more (list (trees (node Kind.AssignmentExpression 23 (more (string (codes "=")) (more (child (node Kind.MemberExpression 24 (more (child (node Kind.IdentifierReference 25 (more (string (codes "o")) end))) (more (child (node Kind.IdentifierName 26 (more (string (codes "x")) end))) (more (boolean false) (more (boolean false) end)))))) (more (child (node Kind.Literal 27 (more (literal (literal_value.Number (codes "1"))) end))) end))) ∷ node Kind.IdentifierReference 15 (more (string (codes "P")) end) ∷ []))) end))) (more (child (node Kind.ClassBody 16 (more (list (trees (node Kind.PropertyDefinition 28 (more (child (node Kind.PrivateIdentifier 29 (more (string (codes "_")) end))) (more (child (node Kind.CallExpression 19 (more (child (node Kind.IdentifierReference 20 (more (string (codes "f")) end))) (more (list (trees (node Kind.Literal 21 (more (literal (literal_value.Number (codes "1"))) end) ∷ []))) (more (boolean false) end))))) (more (boolean false) (more (boolean true) end)))) ∷ []))) end))) end))) ∷ []))) (more (boolean false) end))))) (more no_string end)) ∷ []))) end))

abbrev pub generated_assignment_in_a_heritage : List LedgerEntry
generated_assignment_in_a_heritage = record { name = codes "_"; kind = GeneratedKind.Private (record { 0 = 14 }) } ∷ []

abbrev pub options_assignment_in_a_heritage : Options
options_assignment_in_a_heritage = options_of true None false
