use Rattle.std.proofs.Common.{◌≡◌, drop}
use Rattle.es_lowered.specs.DeadZones as spec
use Rattle.es_touches.specs.Touches.{classes_of}
use Rattle.es_touches.proofs.behind.is_excepted.Given as goal

abbrev pub invariant-loop-class : goal.invariant-loop-class
invariant-loop-class l = spec.is_excepted l.moving l.number (classes_of (drop l.class-index l.classes)) ≡ spec.is_excepted l.moving l.number (classes_of l.classes)
