use Rattle.std.proofs.Common.{◌≡◌, drop}
use Rattle.es_lowered.specs.DeadZones as spec
use Rattle.es_marks.specs.Around.{held_parts}
use Rattle.es_touches.proofs.closures.stands_in_node.Given as goal

abbrev pub invariant-loop-part : goal.invariant-loop-part
invariant-loop-part l = spec.stands_in_node l.node (held_parts (drop l.part-index l.held)) ≡ spec.stands_in_node l.node (held_parts l.held)
