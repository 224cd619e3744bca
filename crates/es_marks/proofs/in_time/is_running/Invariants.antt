use Rattle.std.proofs.Common.{◌≡◌, drop}
use Rattle.std.specs.Str.{chars}
use Rattle.es_marks.specs.InTime.{is_running}
use Rattle.es_marks.specs.Around.{running_classes}
use Rattle.es_marks.proofs.in_time.is_running.Given as goal

abbrev pub invariant-loop-other : goal.invariant-loop-other
invariant-loop-other l = is_running l.class (chars l.name) (running_classes (drop l.other-index l.running)) ≡ is_running l.class (chars l.name) (running_classes l.running)
