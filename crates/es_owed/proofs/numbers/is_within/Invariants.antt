use Rattle.std.proofs.Common.{◌≡◌, ◌≤◌, drop, length}
use Rattle.es_steps.specs.KeptNodes.{is_within}
use Rattle.es_owed.proofs.numbers.is_within.Given as goal

abbrev pub invariant-loop-number : goal.invariant-loop-number
invariant-loop-number l = (l.found ≤ length l.some) × (is_within (drop l.found l.some) (drop l.number-index l.all) ≡ is_within l.some l.all)
