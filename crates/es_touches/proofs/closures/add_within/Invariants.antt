use Rattle.std.proofs.Common.{◌≡◌, ◌++◌, drop}
use Rattle.es_lowered.specs.DeadZones as spec
use Rattle.es_marks.specs.Around.{held_parts}
use Rattle.es_touches.proofs.closures.add_within.Given as goal

abbrev pub invariant-loop-part : goal.invariant-loop-part
invariant-loop-part l = held_parts l.held.items ++ spec.held_within l.arrow (held_parts (drop l.part-index l.parts)) ≡ held_parts l.fn.held.items ++ spec.held_within l.arrow (held_parts l.parts)
