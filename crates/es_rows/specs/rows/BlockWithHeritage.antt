-- Printed by tools/rows/number-rows.js from `block_with_heritage` of tools/rows/rows.json: a worked row with its numbers.
use Rattle.std.specs.Prelude.{ℕ, List, [], ◌∷◌, true, false, codes, Some}
use Rattle.es_base.specs.Tree.{Tree, end, more, child, absent, list, string, no_string, boolean, trees}
use Rattle.es_base.specs.declared.kind.Kind.{Kind}
use Rattle.es_base.specs.declared.ledger.LedgerEntry.{LedgerEntry}
use Rattle.es_steps.specs.Generated.{node}
use Rattle.es_steps.specs.Options.{options_of}
use Rattle.es_steps.specs.declared.options.Options.{Options}

-- `let D = class extends p() { static { a(); } };`
abbrev pub source_block_with_heritage : Tree
source_block_with_heritage = node Kind.Program 0 (more (string (codes "script")) (more (list (trees (node Kind.VariableDeclaration 1 (more (string (codes "let")) (more (list (trees (node Kind.VariableDeclarator 2 (more (child (node Kind.BindingIdentifier 3 (more (string (codes "D")) end))) (more (child (node Kind.ClassExpression 4 (more absent (more (child (node Kind.CallExpression 5 (more (child (node Kind.IdentifierReference 6 (more (string (codes "p")) end))) (more (list end) (more (boolean false) end))))) (more (child (node Kind.ClassBody 7 (more (list (trees (node Kind.StaticBlock 8 (more (list (trees (node Kind.ExpressionStatement 9 (more (child (node Kind.CallExpression 10 (more (child (node Kind.IdentifierReference 11 (more (string (codes "a")) end))) (more (list end) (more (boolean false) end))))) (more no_string end)) ∷ []))) end) ∷ []))) end))) end))))) end)) ∷ []))) end)) ∷ []))) end))

-- the number of its nodes
abbrev pub nodes_block_with_heritage : ℕ
nodes_block_with_heritage = 12

-- `let D = (a(), class extends p() {});`
abbrev pub output_block_with_heritage : Tree
output_block_with_heritage = node Kind.Program 0 (more (string (codes "script")) (more (list (trees (node Kind.VariableDeclaration 1 (more (string (codes "let")) (more (list (trees (node Kind.VariableDeclarator 2 (more (child (node Kind.BindingIdentifier 3 (more (string (codes "D")) end))) (more (child (node Kind.SequenceExpression 12 (more (list (trees (node Kind.CallExpression 10 (more (child (node Kind.IdentifierReference 11 (more (string (codes "a")) end))) (more (list end) (more (boolean false) end))) ∷ node Kind.ClassExpression 4 (more absent (more (child (node Kind.CallExpression 5 (more (child (node Kind.IdentifierReference 6 (more (string (codes "p")) end))) (more (list end) (more (boolean false) end))))) (more (child (node Kind.ClassBody 7 (more (list end) end))) end))) ∷ []))) end))) end)) ∷ []))) end)) ∷ []))) end))

abbrev pub generated_block_with_heritage : List LedgerEntry
generated_block_with_heritage = []

-- the numbers of its shapes
abbrev pub outside_block_with_heritage : List ℕ
outside_block_with_heritage = 1 ∷ []

abbrev pub options_block_with_heritage : Options
options_block_with_heritage = options_of true (Some (record { loose = false })) false
