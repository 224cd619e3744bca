-- Printed by tools/rows/witnesses.js.
use Rattle.std.specs.Prelude.{ℕ, List, [], ◌∷◌, true, false, codes, None}
use Rattle.es_base.specs.Tree.{Tree, end, more, child, absent, list, string, no_string, boolean, literal, trees}
use Rattle.es_base.specs.declared.kind.Kind.{Kind}
use Rattle.es_base.specs.declared.ledger.GeneratedKind.{GeneratedKind}
use Rattle.es_base.specs.declared.ledger.LedgerEntry.{LedgerEntry}
use Rattle.es_base.specs.declared.literal.LiteralValue.TheVariants as literal_value
use Rattle.es_steps.specs.Generated.{node}
use Rattle.es_steps.specs.Options.{options_of}
use Rattle.es_steps.specs.declared.options.Options.{Options}

-- `let o = f(); g((o.x = 1, class { static { f(1); } }));`
abbrev pub source_assignment_that_becomes_strict : Tree
source_assignment_that_becomes_strict = node Kind.Program 0 (more (string (codes "script")) (more (list (trees (node Kind.VariableDeclaration 1 (more (string (codes "let")) (more (list (trees (node Kind.VariableDeclarator 2 (more (child (node Kind.BindingIdentifier 3 (more (string (codes "o")) end))) (more (child (node Kind.CallExpression 4 (more (child (node Kind.IdentifierReference 5 (more (string (codes "f")) end))) (more (list end) (more (boolean false) end))))) end)) ∷ []))) end)) ∷ node Kind.ExpressionStatement 6 (more (child (node Kind.CallExpression 7 (more (child (node Kind.IdentifierReference 8 (more (string (codes "g")) end))) (more (list (trees (node Kind.SequenceExpression 9 (more (list (trees (node Kind.AssignmentExpression 10 (more (string (codes "=")) (more (child (node Kind.MemberExpression 11 (more (child (node Kind.IdentifierReference 12 (more (string (codes "o")) end))) (more (child (node Kind.IdentifierName 13 (more (string (codes "x")) end))) (more (boolean false) (more (boolean false) end)))))) (more (child (node Kind.Literal 14 (more (literal (literal_value.Number (codes "1"))) end))) end))) ∷ node Kind.ClassExpression 15 (more absent (more absent (more (child (node Kind.ClassBody 16 (more (list (trees (node Kind.StaticBlock 17 (more (list (trees (node Kind.ExpressionStatement 18 (more (child (node Kind.CallExpression 19 (more (child (node Kind.IdentifierReference 20 (more (string (codes "f")) end))) (more (list (trees (node Kind.Literal 21 (more (literal (literal_value.Number (codes "1"))) end) ∷ []))) (more (boolean false) end))))) (more no_string end)) ∷ []))) end) ∷ []))) end))) end))) ∷ []))) end) ∷ []))) (more (boolean false) end))))) (more no_string end)) ∷ []))) end))

-- a new assignment to a member, in a static field, where code is strict: `let o = f(); g(class { static #_ = (o.x = 1, f(1)); });`
abbrev pub output_assignment_that_becomes_strict : Tree
output_assignment_that_becomes_strict = node Kind.Program 0 (more (string (codes "script")) (more (list (trees (node Kind.VariableDeclaration 1 (more (string (codes "let")) (more (list (trees (node Kind.VariableDeclarator 2 (more (child (node Kind.BindingIdentifier 3 (more (string (codes "o")) end))) (more (child (node Kind.CallExpression 4 (more (child (node Kind.IdentifierReference 5 (more (string (codes "f")) end))) (more (list end) (more (boolean false) end))))) end)) ∷ []))) end)) ∷ node Kind.ExpressionStatement 6 (more (child (node Kind.CallExpression 7 (more (child (node Kind.IdentifierReference 8 (more (string (codes "g")) end))) (more (list (trees (node Kind.ClassExpression 15 (more absent (more absent (more (child (node Kind.ClassBody 16 (more (list (trees (node Kind.PropertyDefinition 22 (more (child (node Kind.PrivateIdentifier 23 (more (string (codes "_")) end))) (more (child (node Kind.SequenceExpression 24 (more (list (trees (node Kind.AssignmentExpression 25 (more (string (codes "=")) (more (child (node Kind.MemberExpression 26 (more (child (node Kind.IdentifierReference 27 (more (string (codes "o")) end))) (more (child (node Kind.IdentifierName 28 (more (string (codes "x")) end))) (more (boolean false) (more (boolean false) end)))))) (more (child (node Kind.Literal 29 (more (literal (literal_value.Number (codes "1"))) end))) end))) ∷ node Kind.CallExpression 19 (more (child (node Kind.IdentifierReference 20 (more (string (codes "f")) end))) (more (list (trees (node Kind.Literal 21 (more (literal (literal_value.Number (codes "1"))) end) ∷ []))) (more (boolean false) end))) ∷ []))) end))) (more (boolean false) (more (boolean true) end)))) ∷ []))) end))) end))) ∷ []))) (more (boolean false) end))))) (more no_string end)) ∷ []))) end))

abbrev pub generated_assignment_that_becomes_strict : List LedgerEntry
generated_assignment_that_becomes_strict = record { name = codes "_"; kind = GeneratedKind.Private (record { 0 = 15 }) } ∷ []

abbrev pub options_assignment_that_becomes_strict : Options
options_assignment_that_becomes_strict = options_of true None false
