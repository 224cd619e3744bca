use Rattle.std.proofs.Common.{◌≡◌, drop}
use Rattle.es_lowered.specs.DeadZones as spec
use Rattle.es_touches.specs.Touches.{closures_of, touch_of}
use Rattle.es_touches.proofs.closures.is_run_before.Given as goal

abbrev pub invariant-loop-closure : goal.invariant-loop-closure
invariant-loop-closure l = spec.is_run_before (closures_of (drop l.closure-index l.called)) l.ran (touch_of l.touch) (touch_of l.other) ≡ spec.is_run_before (closures_of l.called) l.ran (touch_of l.touch) (touch_of l.other)
