use Rattle.std.proofs.Common.{◌≡◌, ◌++◌, drop}
use Rattle.es_touches.specs.Touches.{closures_of}
use Rattle.es_kept_bodies.specs.Indexed.{arrows_of}
use Rattle.es_kept_bodies.proofs.indexed.arrows.Given as goal

abbrev pub invariant-loop-closure : goal.invariant-loop-closure
invariant-loop-closure l = l.arrows.items ++ arrows_of (closures_of (drop l.closure-index l.called)) ≡ arrows_of (closures_of l.called)
