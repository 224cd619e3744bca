-- Printed by tools/rows/number-rows.js from `awaited_at_top` of tools/rows/rows.json: a worked row with its numbers.
use Rattle.std.specs.Prelude.{ℕ, List, [], ◌∷◌, true, false, codes, None}
use Rattle.es_base.specs.Tree.{Tree, end, more, child, absent, list, string, no_string, boolean, trees}
use Rattle.es_base.specs.declared.kind.Kind.{Kind}
use Rattle.es_base.specs.declared.ledger.LedgerEntry.{LedgerEntry}
use Rattle.es_steps.specs.Generated.{node}
use Rattle.es_steps.specs.Options.{options_of}
use Rattle.es_steps.specs.declared.options.Options.{Options}

-- `await a; for await (const x of y) {}`
abbrev pub source_awaited_at_top : Tree
source_awaited_at_top = node Kind.Program 0 (more (string (codes "module")) (more (list (trees (node Kind.ExpressionStatement 1 (more (child (node Kind.AwaitExpression 2 (more (child (node Kind.IdentifierReference 3 (more (string (codes "a")) end))) end))) (more no_string end)) ∷ node Kind.ForOfStatement 4 (more (child (node Kind.VariableDeclaration 5 (more (string (codes "const")) (more (list (trees (node Kind.VariableDeclarator 6 (more (child (node Kind.BindingIdentifier 7 (more (string (codes "x")) end))) (more absent end)) ∷ []))) end)))) (more (child (node Kind.IdentifierReference 8 (more (string (codes "y")) end))) (more (child (node Kind.BlockStatement 9 (more (list end) end))) (more (boolean true) end)))) ∷ []))) end))

-- the number of its nodes
abbrev pub nodes_awaited_at_top : ℕ
nodes_awaited_at_top = 10

-- `await a; for await (const x of y) {}`
abbrev pub output_awaited_at_top : Tree
output_awaited_at_top = node Kind.Program 0 (more (string (codes "module")) (more (list (trees (node Kind.ExpressionStatement 1 (more (child (node Kind.AwaitExpression 2 (more (child (node Kind.IdentifierReference 3 (more (string (codes "a")) end))) end))) (more no_string end)) ∷ node Kind.ForOfStatement 4 (more (child (node Kind.VariableDeclaration 5 (more (string (codes "const")) (more (list (trees (node Kind.VariableDeclarator 6 (more (child (node Kind.BindingIdentifier 7 (more (string (codes "x")) end))) (more absent end)) ∷ []))) end)))) (more (child (node Kind.IdentifierReference 8 (more (string (codes "y")) end))) (more (child (node Kind.BlockStatement 9 (more (list end) end))) (more (boolean true) end)))) ∷ []))) end))

abbrev pub generated_awaited_at_top : List LedgerEntry
generated_awaited_at_top = []

-- the numbers of its shapes
abbrev pub outside_awaited_at_top : List ℕ
outside_awaited_at_top = []

abbrev pub options_awaited_at_top : Options
options_awaited_at_top = options_of false None false
