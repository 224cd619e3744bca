use Rattle.std.proofs.Common.{◌≡◌, drop}
use Rattle.es_touches.specs.Comparison.{none_in_closure}
use Rattle.es_touches.specs.Touches.{closures_of, touches_of}
use Rattle.es_kept_bodies.proofs.kept.none_in_closure.Given as goal

abbrev pub invariant-loop-touch : goal.invariant-loop-touch
invariant-loop-touch l = none_in_closure (closures_of l.indexed.source.now.called.now) (touches_of (drop l.touch-index l.touches)) ≡ none_in_closure (closures_of l.indexed.source.now.called.now) (touches_of l.touches)
