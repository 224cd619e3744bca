-- Printed by tools/rows/number-rows.js from `block_of_expression` of tools/rows/rows.json: a worked row with its numbers.
use Rattle.std.specs.Prelude.{ℕ, List, [], ◌∷◌, true, false, codes, Some}
use Rattle.es_base.specs.Tree.{Tree, end, more, child, absent, list, string, no_string, boolean, trees}
use Rattle.es_base.specs.declared.kind.Kind.{Kind}
use Rattle.es_base.specs.declared.ledger.LedgerEntry.{LedgerEntry}
use Rattle.es_steps.specs.Generated.{node}
use Rattle.es_steps.specs.Options.{options_of}
use Rattle.es_steps.specs.declared.options.Options.{Options}

-- `let D = class { static { a(); } };`
abbrev pub source_block_of_expression : Tree
source_block_of_expression = node Kind.Program 0 (more (string (codes "script")) (more (list (trees (node Kind.VariableDeclaration 1 (more (string (codes "let")) (more (list (trees (node Kind.VariableDeclarator 2 (more (child (node Kind.BindingIdentifier 3 (more (string (codes "D")) end))) (more (child (node Kind.ClassExpression 4 (more absent (more absent (more (child (node Kind.ClassBody 5 (more (list (trees (node Kind.StaticBlock 6 (more (list (trees (node Kind.ExpressionStatement 7 (more (child (node Kind.CallExpression 8 (more (child (node Kind.IdentifierReference 9 (more (string (codes "a")) end))) (more (list end) (more (boolean false) end))))) (more no_string end)) ∷ []))) end) ∷ []))) end))) end))))) end)) ∷ []))) end)) ∷ []))) end))

-- the number of its nodes
abbrev pub nodes_block_of_expression : ℕ
nodes_block_of_expression = 10

-- `let D = (a(), class {});`
abbrev pub output_block_of_expression : Tree
output_block_of_expression = node Kind.Program 0 (more (string (codes "script")) (more (list (trees (node Kind.VariableDeclaration 1 (more (string (codes "let")) (more (list (trees (node Kind.VariableDeclarator 2 (more (child (node Kind.BindingIdentifier 3 (more (string (codes "D")) end))) (more (child (node Kind.SequenceExpression 10 (more (list (trees (node Kind.CallExpression 8 (more (child (node Kind.IdentifierReference 9 (more (string (codes "a")) end))) (more (list end) (more (boolean false) end))) ∷ node Kind.ClassExpression 4 (more absent (more absent (more (child (node Kind.ClassBody 5 (more (list end) end))) end))) ∷ []))) end))) end)) ∷ []))) end)) ∷ []))) end))

abbrev pub generated_block_of_expression : List LedgerEntry
generated_block_of_expression = []

-- the numbers of its shapes
abbrev pub outside_block_of_expression : List ℕ
outside_block_of_expression = []

abbrev pub options_block_of_expression : Options
options_block_of_expression = options_of true (Some (record { loose = false })) false
