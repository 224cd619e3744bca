use Rattle.std.proofs.Common.{◌≡◌, ◌++◌, drop}
use Rattle.es_base.specs.Tree.{trees}
use Rattle.es_steps.specs.KeptNodes.{free_numbers}
use Rattle.es_owed.proofs.lists.free_numbers.Given as goal

abbrev pub invariant-loop-statement : goal.invariant-loop-statement
invariant-loop-statement l = l.numbers.items ++ free_numbers l.options (trees (drop l.statement-index l.statements)) ≡ free_numbers l.options (trees l.statements)
