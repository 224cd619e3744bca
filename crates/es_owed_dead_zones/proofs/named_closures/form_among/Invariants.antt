use Rattle.std.proofs.Common.{◌≡◌, drop, false}
use Rattle.std.specs.Str.{chars}
use Rattle.es_lowered.specs.DeadZones.{call_form}
use Rattle.es_touches.specs.Touches.{closures_of}
use Rattle.es_owed_dead_zones.proofs.named_closures.form_among.Given as goal

abbrev pub invariant-loop-closure : goal.invariant-loop-closure
invariant-loop-closure l = call_form false (chars l.name) (closures_of (drop l.closure-index l.closures)) ≡ call_form false (chars l.name) (closures_of l.closures)
