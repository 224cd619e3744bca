use Rattle.std.proofs.Common.{◌≡◌, ◌++◌, drop}
use Rattle.es_by_number.specs.Numbered as by_number
use Rattle.es_touches.specs.Touches.{closure_of, closures_of}
use Rattle.es_owed_dead_zones.specs.LookedUp.{numbered_closures}
use Rattle.es_owed_dead_zones.proofs.named_closures.with_numbers.Given as goal

abbrev pub invariant-loop-closure : goal.invariant-loop-closure
invariant-loop-closure l = by_number.numbered closure_of l.items.items ++ numbered_closures l.spellings (closures_of (drop l.closure-index l.closures)) ≡ numbered_closures l.spellings (closures_of l.closures)
