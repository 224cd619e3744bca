use Rattle.std.proofs.Common.{◌≡◌, drop}
use Rattle.es_lowered.specs.DeadZones as spec
use Rattle.es_touches.specs.Touches.{touches_of}
use Rattle.es_touches.proofs.behind.is_touched.Given as goal

abbrev pub invariant-loop-touch : goal.invariant-loop-touch
invariant-loop-touch l = spec.is_touched l.number (touches_of (drop l.touch-index l.touches)) ≡ spec.is_touched l.number (touches_of l.touches)
