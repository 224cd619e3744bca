-- Printed by tools/rows/witnesses.js.
use Rattle.std.specs.Prelude.{ℕ, List, [], ◌∷◌, true, false, codes, None}
use Rattle.es_base.specs.Tree.{Tree, end, more, child, absent, list, string, no_string, boolean, literal, trees}
use Rattle.es_base.specs.declared.kind.Kind.{Kind}
use Rattle.es_base.specs.declared.ledger.GeneratedKind.{GeneratedKind}
use Rattle.es_base.specs.declared.ledger.LedgerEntry.{LedgerEntry}
use Rattle.es_base.specs.declared.literal.LiteralValue.TheVariants as literal_value
use Rattle.es_steps.specs.Generated.{node}
use Rattle.es_steps.specs.Options.{options_of}
use Rattle.es_steps.specs.declared.options.Options.{Options}

-- `g((f().x = 1, class { static { h(1); } }));`
abbrev pub source_assignment_to_a_temporary_that_becomes_strict : Tree
source_assignment_to_a_temporary_that_becomes_strict = node Kind.Program 0 (more (string (codes "script")) (more (list (trees (node Kind.ExpressionStatement 1 (more (child (node Kind.CallExpression 2 (more (child (node Kind.IdentifierReference 3 (more (string (codes "g")) end))) (more (list (trees (node Kind.SequenceExpression 4 (more (list (trees (node Kind.AssignmentExpression 5 (more (string (codes "=")) (more (child (node Kind.MemberExpression 6 (more (child (node Kind.CallExpression 7 (more (child (node Kind.IdentifierReference 8 (more (string (codes "f")) end))) (more (list end) (more (boolean false) end))))) (more (child (node Kind.IdentifierName 9 (more (string (codes "x")) end))) (more (boolean false) (more (boolean false) end)))))) (more (child (node Kind.Literal 10 (more (literal (literal_value.Number (codes "1"))) end))) end))) ∷ node Kind.ClassExpression 11 (more absent (more absent (more (child (node Kind.ClassBody 12 (more (list (trees (node Kind.StaticBlock 13 (more (list (trees (node Kind.ExpressionStatement 14 (more (child (node Kind.CallExpression 15 (more (child (node Kind.IdentifierReference 16 (more (string (codes "h")) end))) (more (list (trees (node Kind.Literal 17 (more (literal (literal_value.Number (codes "1"))) end) ∷ []))) (more (boolean false) end))))) (more no_string end)) ∷ []))) end) ∷ []))) end))) end))) ∷ []))) end) ∷ []))) (more (boolean false) end))))) (more no_string end)) ∷ []))) end))

-- a new assignment to a member of a temporary, in a static field, where code is strict: `var _t; g((_t = f(), class { static #_ = (_t.x = 1, h(1)); }));`
abbrev pub output_assignment_to_a_temporary_that_becomes_strict : Tree
output_assignment_to_a_temporary_that_becomes_strict = node Kind.Program 0 (more (string (codes "script")) (more (list (trees (node Kind.VariableDeclaration 18 (more (string (codes "var")) (more (list (trees (node Kind.VariableDeclarator 19 (more (child (node Kind.BindingIdentifier 20 (more (string (codes "_t")) end))) (more absent end)) ∷ []))) end)) ∷ node Kind.ExpressionStatement 1 (more (child (node Kind.CallExpression 2 (more (child (node Kind.IdentifierReference 3 (more (string (codes "g")) end))) (more (list (trees (node Kind.SequenceExpression 21 (more (list (trees (node Kind.AssignmentExpression 22 (more (string (codes "=")) (more (child (node Kind.IdentifierReference 23 (more (string (codes "_t")) end))) (more (child (node Kind.CallExpression 7 (more (child (node Kind.IdentifierReference 8 (more (string (codes "f")) end))) (more (list end) (more (boolean false) end))))) end))) ∷ node Kind.ClassExpression 11 (more absent (more absent (more (child (node Kind.ClassBody 12 (more (list (trees (node Kind.PropertyDefinition 24 (more (child (node Kind.PrivateIdentifier 25 (more (string (codes "_")) end))) (more (child (node Kind.SequenceExpression 26 (more (list (trees (node Kind.AssignmentExpression 27 (more (string (codes "=")) (more (child (node Kind.MemberExpression 28 (more (child (node Kind.IdentifierReference 29 (more (string (codes "_t")) end))) (more (child (node Kind.IdentifierName 30 (more (string (codes "x")) end))) (more (boolean false) (more (boolean false) end)))))) (more (child (node Kind.Literal 31 (more (literal (literal_value.Number (codes "1"))) end))) end))) ∷ node Kind.CallExpression 15 (more (child (node Kind.IdentifierReference 16 (more (string (codes "h")) end))) (more (list (trees (node Kind.Literal 17 (more (literal (literal_value.Number (codes "1"))) end) ∷ []))) (more (boolean false) end))) ∷ []))) end))) (more (boolean false) (more (boolean true) end)))) ∷ []))) end))) end))) ∷ []))) end) ∷ []))) (more (boolean false) end))))) (more no_string end)) ∷ []))) end))

abbrev pub generated_assignment_to_a_temporary_that_becomes_strict : List LedgerEntry
generated_assignment_to_a_temporary_that_becomes_strict = record { name = codes "_"; kind = GeneratedKind.Private (record { 0 = 11 }) } ∷ record { name = codes "_t"; kind = GeneratedKind.Temp } ∷ []

abbrev pub options_assignment_to_a_temporary_that_becomes_strict : Options
options_assignment_to_a_temporary_that_becomes_strict = options_of true None false
