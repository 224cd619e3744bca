use Rattle.std.proofs.Common.{◌≡◌, drop}
use Rattle.es_lowered.specs.Timely.{is_around}
use Rattle.es_marks.specs.Around.{later_functions}
use Rattle.es_marks.proofs.in_time.is_around.Given as goal

abbrev pub invariant-loop-other : goal.invariant-loop-other
invariant-loop-other l = is_around l.function (later_functions (drop l.other-index l.functions)) ≡ is_around l.function (later_functions l.functions)
