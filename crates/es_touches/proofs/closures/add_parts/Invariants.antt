use Rattle.std.proofs.Common.{◌≡◌, ◌++◌, drop}
use Rattle.es_marks.specs.Around.{held_parts}
use Rattle.es_touches.proofs.closures.add_parts.Given as goal

abbrev pub invariant-loop-part : goal.invariant-loop-part
invariant-loop-part l = held_parts l.held.items ++ held_parts (drop l.part-index l.parts) ≡ held_parts l.fn.held.items ++ held_parts l.parts
