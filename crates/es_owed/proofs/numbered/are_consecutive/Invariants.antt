use Rattle.std.proofs.Common.{◌≡◌, drop, Some}
use Rattle.es_owed.specs.Numbers.{consecutive_from}
use Rattle.es_owed.proofs.numbered.are_consecutive.Given as goal

abbrev pub invariant-loop-number : goal.invariant-loop-number
invariant-loop-number l = consecutive_from l.first (Some l.next) (drop l.number-index l.numbers) ≡ consecutive_from l.first (Some l.first) l.numbers
