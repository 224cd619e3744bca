use Rattle.std.proofs.Common.{◌≡◌, ◌++◌, drop}
use Rattle.es_marks.specs.Around.{held_parts}
use Rattle.es_owed_dead_zones.specs.Bodies as bodied
use Rattle.es_touches.specs.Touches.{kept_touches}
use Rattle.es_owed_dead_zones.proofs.bodies.add_copies.Given as goal

abbrev pub invariant-loop-touch : goal.invariant-loop-touch
invariant-loop-touch l = kept_touches l.touches.items ++ bodied.with_held (held_parts l.held) (kept_touches (drop l.touch-index l.more)) ≡ kept_touches l.fn.touches.items ++ bodied.with_held (held_parts l.held) (kept_touches l.more)
