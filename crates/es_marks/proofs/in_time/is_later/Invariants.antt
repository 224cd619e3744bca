use Rattle.std.proofs.Common.{◌≡◌, drop}
use Rattle.es_lowered.specs.Timely.{is_later}
use Rattle.es_marks.specs.Around.{later_functions}
use Rattle.es_marks.proofs.in_time.is_later.Given as goal

abbrev pub invariant-loop-function : goal.invariant-loop-function
invariant-loop-function l = is_later (later_functions (drop l.function-index l.here)) (later_functions l.there) ≡ is_later (later_functions l.here) (later_functions l.there)
