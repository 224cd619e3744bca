use Rattle.std.proofs.Common.{◌≡◌, ◌++◌, drop}
use Rattle.es_base.specs.Tree.{trees}
use Rattle.es_steps.specs.KeptNodes.{item_numbers}
use Rattle.es_owed.proofs.lists.item_numbers.Given as goal

abbrev pub invariant-loop-statement : goal.invariant-loop-statement
invariant-loop-statement l = l.numbers.items ++ item_numbers (trees (drop l.statement-index l.statements)) ≡ item_numbers (trees l.statements)
