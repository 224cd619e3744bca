-- Printed by tools/rows/number-rows.js from `trailing_block_of_named_expression` of tools/rows/rows.json: a worked row with its numbers.
use Rattle.std.specs.Prelude.{ℕ, List, [], ◌∷◌, true, false, codes, None}
use Rattle.es_base.specs.Tree.{Tree, end, more, child, absent, list, string, no_string, boolean, literal, trees}
use Rattle.es_base.specs.declared.kind.Kind.{Kind}
use Rattle.es_base.specs.declared.ledger.GeneratedKind.{GeneratedKind}
use Rattle.es_base.specs.declared.ledger.LedgerEntry.{LedgerEntry}
use Rattle.es_base.specs.declared.literal.LiteralValue.TheVariants as literal_value
use Rattle.es_steps.specs.Generated.{node}
use Rattle.es_steps.specs.Options.{options_of}
use Rattle.es_steps.specs.declared.options.Options.{Options}

-- `let D = class { static { a; } };`
abbrev pub source_trailing_block_of_named_expression : Tree
source_trailing_block_of_named_expression = node Kind.Program 0 (more (string (codes "script")) (more (list (trees (node Kind.VariableDeclaration 1 (more (string (codes "let")) (more (list (trees (node Kind.VariableDeclarator 2 (more (child (node Kind.BindingIdentifier 3 (more (string (codes "D")) end))) (more (child (node Kind.ClassExpression 4 (more absent (more absent (more (child (node Kind.ClassBody 5 (more (list (trees (node Kind.StaticBlock 6 (more (list (trees (node Kind.ExpressionStatement 7 (more (child (node Kind.IdentifierReference 8 (more (string (codes "a")) end))) (more no_string end)) ∷ []))) end) ∷ []))) end))) end))))) end)) ∷ []))) end)) ∷ []))) end))

-- the number of its nodes
abbrev pub nodes_trailing_block_of_named_expression : ℕ
nodes_trailing_block_of_named_expression = 9

-- `var _staticBlock; let D = ({ "D": class { static #_ = _staticBlock = () => (a, this); } }["D"], _staticBlock());`
abbrev pub output_trailing_block_of_named_expression : Tree
output_trailing_block_of_named_expression = node Kind.Program 0 (more (string (codes "script")) (more (list (trees (node Kind.VariableDeclaration 9 (more (string (codes "var")) (more (list (trees (node Kind.VariableDeclarator 10 (more (child (node Kind.BindingIdentifier 11 (more (string (codes "_staticBlock")) end))) (more absent end)) ∷ []))) end)) ∷ node Kind.VariableDeclaration 1 (more (string (codes "let")) (more (list (trees (node Kind.VariableDeclarator 2 (more (child (node Kind.BindingIdentifier 3 (more (string (codes "D")) end))) (more (child (node Kind.SequenceExpression 12 (more (list (trees (node Kind.MemberExpression 13 (more (child (node Kind.ObjectExpression 14 (more (list (trees (node Kind.Property 15 (more (child (node Kind.Literal 16 (more (literal (literal_value.String (codes "D") None)) end))) (more (child (node Kind.ClassExpression 4 (more absent (more absent (more (child (node Kind.ClassBody 5 (more (list (trees (node Kind.PropertyDefinition 17 (more (child (node Kind.PrivateIdentifier 18 (more (string (codes "_")) end))) (more (child (node Kind.AssignmentExpression 19 (more (string (codes "=")) (more (child (node Kind.IdentifierReference 20 (more (string (codes "_staticBlock")) end))) (more (child (node Kind.ArrowFunctionExpression 21 (more (list end) (more (child (node Kind.SequenceExpression 22 (more (list (trees (node Kind.IdentifierReference 8 (more (string (codes "a")) end) ∷ node Kind.ThisExpression 23 end ∷ []))) end))) (more (boolean false) end))))) end))))) (more (boolean false) (more (boolean true) end)))) ∷ []))) end))) end))))) (more (string (codes "init")) (more (boolean false) (more (boolean false) (more (boolean false) end)))))) ∷ []))) end))) (more (child (node Kind.Literal 24 (more (literal (literal_value.String (codes "D") None)) end))) (more (boolean true) (more (boolean false) end)))) ∷ node Kind.CallExpression 25 (more (child (node Kind.IdentifierReference 26 (more (string (codes "_staticBlock")) end))) (more (list end) (more (boolean false) end))) ∷ []))) end))) end)) ∷ []))) end)) ∷ []))) end))

abbrev pub generated_trailing_block_of_named_expression : List LedgerEntry
generated_trailing_block_of_named_expression = record { name = codes "_"; kind = GeneratedKind.Private (record { 0 = 4 }) } ∷ record { name = codes "_staticBlock"; kind = GeneratedKind.Closure } ∷ []

-- the numbers of its shapes
abbrev pub outside_trailing_block_of_named_expression : List ℕ
outside_trailing_block_of_named_expression = []

abbrev pub options_trailing_block_of_named_expression : Options
options_trailing_block_of_named_expression = options_of true None false
