-- Printed by tools/rows/number-rows.js from `block_behind_field` of tools/rows/rows.json: a worked row with its numbers.
use Rattle.std.specs.Prelude.{ℕ, List, [], ◌∷◌, true, false, codes, None}
use Rattle.es_base.specs.Tree.{Tree, end, more, child, absent, list, string, no_string, boolean, literal, trees}
use Rattle.es_base.specs.declared.kind.Kind.{Kind}
use Rattle.es_base.specs.declared.ledger.GeneratedKind.{GeneratedKind}
use Rattle.es_base.specs.declared.ledger.LedgerEntry.{LedgerEntry}
use Rattle.es_base.specs.declared.literal.LiteralValue.TheVariants as literal_value
use Rattle.es_steps.specs.Generated.{node}
use Rattle.es_steps.specs.Options.{options_of}
use Rattle.es_steps.specs.declared.options.Options.{Options}

-- `class C { static x = 1; static { a; } }`
abbrev pub source_block_behind_field : Tree
source_block_behind_field = node Kind.Program 0 (more (string (codes "script")) (more (list (trees (node Kind.ClassDeclaration 1 (more (child (node Kind.BindingIdentifier 2 (more (string (codes "C")) end))) (more absent (more (child (node Kind.ClassBody 3 (more (list (trees (node Kind.PropertyDefinition 4 (more (child (node Kind.IdentifierName 5 (more (string (codes "x")) end))) (more (child (node Kind.Literal 6 (more (literal (literal_value.Number (codes "1"))) end))) (more (boolean false) (more (boolean true) end)))) ∷ node Kind.StaticBlock 7 (more (list (trees (node Kind.ExpressionStatement 8 (more (child (node Kind.IdentifierReference 9 (more (string (codes "a")) end))) (more no_string end)) ∷ []))) end) ∷ []))) end))) end))) ∷ []))) end))

-- the number of its nodes
abbrev pub nodes_block_behind_field : ℕ
nodes_block_behind_field = 10

-- `var _staticBlock; let C = (class C { static x = ((_value) => (_staticBlock = () => (a, this), _value))(1); }, _staticBlock());`
abbrev pub output_block_behind_field : Tree
output_block_behind_field = node Kind.Program 0 (more (string (codes "script")) (more (list (trees (node Kind.VariableDeclaration 10 (more (string (codes "var")) (more (list (trees (node Kind.VariableDeclarator 11 (more (child (node Kind.BindingIdentifier 12 (more (string (codes "_staticBlock")) end))) (more absent end)) ∷ []))) end)) ∷ node Kind.VariableDeclaration 13 (more (string (codes "let")) (more (list (trees (node Kind.VariableDeclarator 14 (more (child (node Kind.BindingIdentifier 2 (more (string (codes "C")) end))) (more (child (node Kind.SequenceExpression 15 (more (list (trees (node Kind.ClassExpression 1 (more (child (node Kind.BindingIdentifier 16 (more (string (codes "C")) end))) (more absent (more (child (node Kind.ClassBody 3 (more (list (trees (node Kind.PropertyDefinition 4 (more (child (node Kind.IdentifierName 5 (more (string (codes "x")) end))) (more (child (node Kind.CallExpression 17 (more (child (node Kind.ArrowFunctionExpression 18 (more (list (trees (node Kind.BindingIdentifier 19 (more (string (codes "_value")) end) ∷ []))) (more (child (node Kind.SequenceExpression 20 (more (list (trees (node Kind.AssignmentExpression 21 (more (string (codes "=")) (more (child (node Kind.IdentifierReference 22 (more (string (codes "_staticBlock")) end))) (more (child (node Kind.ArrowFunctionExpression 23 (more (list end) (more (child (node Kind.SequenceExpression 24 (more (list (trees (node Kind.IdentifierReference 9 (more (string (codes "a")) end) ∷ node Kind.ThisExpression 25 end ∷ []))) end))) (more (boolean false) end))))) end))) ∷ node Kind.IdentifierReference 26 (more (string (codes "_value")) end) ∷ []))) end))) (more (boolean false) end))))) (more (list (trees (node Kind.Literal 6 (more (literal (literal_value.Number (codes "1"))) end) ∷ []))) (more (boolean false) end))))) (more (boolean false) (more (boolean true) end)))) ∷ []))) end))) end))) ∷ node Kind.CallExpression 27 (more (child (node Kind.IdentifierReference 28 (more (string (codes "_staticBlock")) end))) (more (list end) (more (boolean false) end))) ∷ []))) end))) end)) ∷ []))) end)) ∷ []))) end))

abbrev pub generated_block_behind_field : List LedgerEntry
generated_block_behind_field = record { name = codes "_staticBlock"; kind = GeneratedKind.Closure } ∷ record { name = codes "_value"; kind = GeneratedKind.Param } ∷ []

-- the numbers of its shapes
abbrev pub outside_block_behind_field : List ℕ
outside_block_behind_field = []

abbrev pub options_block_behind_field : Options
options_block_behind_field = options_of true None false
