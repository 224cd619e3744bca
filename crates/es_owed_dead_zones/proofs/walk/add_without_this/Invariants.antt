use Rattle.std.proofs.Common.{◌≡◌, ◌++◌}
use Rattle.es_lowered.specs.DeadZones as spec
use Rattle.es_touches.specs.Touches.{kept_touches}
use Rattle.es_owed_dead_zones.proofs.walk.add_without_this.Given as goal

abbrev pub invariant-loop-touch : goal.invariant-loop-touch
invariant-loop-touch l = kept_touches l.touches.items ++ spec.without_this (kept_touches l.touch-iterator.rest.items) ≡ kept_touches l.fn.touches.items ++ spec.without_this (kept_touches l.fn.values.items)
