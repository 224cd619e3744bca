use Rattle.std.proofs.Common.{◌≡◌, ◌+◌, ◌≤◌, drop}
use Rattle.es_lowered.specs.DeadZones as spec
use Rattle.es_touches.specs.Touches.{touches_of}
use Rattle.es_touches.proofs.behind.times.Given as goal

abbrev pub invariant-loop-touch : goal.invariant-loop-touch
invariant-loop-touch l = (l.count + spec.times l.number (touches_of (drop l.touch-index l.touches)) ≡ spec.times l.number (touches_of l.touches)) × (l.count ≤ l.touch-index)
