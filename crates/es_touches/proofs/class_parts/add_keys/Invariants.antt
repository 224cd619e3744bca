use Rattle.std.proofs.Common.{◌≡◌, ◌++◌, drop}
use Rattle.es_base.specs.Tree.{trees}
use Rattle.es_lowered.specs.DeadZones as spec
use Rattle.es_touches.proofs.class_parts.add_keys.Given as goal

abbrev pub invariant-loop-element : goal.invariant-loop-element
invariant-loop-element l = l.numbers.items ++ spec.key_references (trees (drop l.element-index l.elements)) ≡ l.fn.numbers.items ++ spec.key_references (trees l.elements)
