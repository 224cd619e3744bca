use Rattle.std.proofs.Common.{◌≡◌, ◌+◌, ◌≤◌, drop}
use Rattle.es_lowered.specs.DeadZones as spec
use Rattle.es_touches.specs.Touches.{closures_of, touch_of, touches_of}
use Rattle.es_touches.proofs.closures.definitions_touched.Given as goal

abbrev pub invariant-loop-other : goal.invariant-loop-other
invariant-loop-other l = (l.count + spec.definitions_touched (closures_of l.called) (touch_of l.touch) (touches_of (drop l.other-index l.others)) ≡ spec.definitions_touched (closures_of l.called) (touch_of l.touch) (touches_of l.others)) × (l.count ≤ l.other-index)
