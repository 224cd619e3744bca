use Rattle.std.proofs.Common.{◌≡◌, drop}
use Rattle.es_lowered.specs.DeadZones as spec
use Rattle.es_touches.specs.Touches.{closures_of}
use Rattle.es_touches.proofs.closures.is_arrow_of.Given as goal

abbrev pub invariant-loop-closure : goal.invariant-loop-closure
invariant-loop-closure l = spec.is_arrow_of l.arrow (closures_of (drop l.closure-index l.called)) ≡ spec.is_arrow_of l.arrow (closures_of l.called)
