use Rattle.std.proofs.Common.{◌≡◌, drop}
use Rattle.es_marks.specs.Around.{held_parts}
use Rattle.es_touches.specs.Touches.{closures_of}
use Rattle.es_kept_bodies.specs.Indexed.{any_of_closure}
use Rattle.es_kept_bodies.proofs.kept.any_of_closure.Given as goal

abbrev pub invariant-loop-part : goal.invariant-loop-part
invariant-loop-part l = any_of_closure (closures_of l.indexed.source.now.called.now) (held_parts (drop l.part-index l.parts)) ≡ any_of_closure (closures_of l.indexed.source.now.called.now) (held_parts l.parts)
