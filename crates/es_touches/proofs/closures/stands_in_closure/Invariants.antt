use Rattle.std.proofs.Common.{◌≡◌, drop}
use Rattle.es_lowered.specs.DeadZones as spec
use Rattle.es_touches.specs.Touches.{closures_of, touch_of}
use Rattle.es_touches.proofs.closures.stands_in_closure.Given as goal

abbrev pub invariant-loop-closure : goal.invariant-loop-closure
invariant-loop-closure l = spec.stands_in_closure (closures_of (drop l.closure-index l.called)) (touch_of l.touch) ≡ spec.stands_in_closure (closures_of l.called) (touch_of l.touch)
