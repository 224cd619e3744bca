use Rattle.std.proofs.Common.{◌≤◌, ◌+◌, ◌-◌, length}
use Rattle.std.specs.Str.{chars}
use Rattle.es_names.specs.Taken.{AreTakenBefore}
use Rattle.es_names.proofs.candidate.first_free.Given as goal

abbrev pub invariant-loop-name : goal.invariant-loop-name
invariant-loop-name l = (1 ≤ l.number) × AreTakenBefore l.taken (chars l.base) l.number

abbrev pub decreases-loop-name : goal.decreases-loop-name
decreases-loop-name l = length l.taken + 2 - l.number
