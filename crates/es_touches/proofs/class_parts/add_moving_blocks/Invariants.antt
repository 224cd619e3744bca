use Rattle.std.proofs.Common.{◌≡◌, ◌++◌, drop}
use Rattle.es_base.specs.Tree.{trees}
use Rattle.es_lowered.specs.DeadZones as spec
use Rattle.es_touches.proofs.class_parts.add_moving_blocks.Given as goal

abbrev pub invariant-loop-element : goal.invariant-loop-element
invariant-loop-element l = l.numbers.items ++ spec.moving_blocks (trees (drop l.element-index l.elements)) ≡ l.fn.numbers.items ++ spec.moving_blocks (trees l.elements)
