use Rattle.std.proofs.Common.{◌≡◌, drop}
use Rattle.es_lowered.specs.Timely.{is_called_early}
use Rattle.es_marks.specs.Around.{later_functions}
use Rattle.es_marks.proofs.in_time.is_called_early.Given as goal

abbrev pub invariant-loop-i : goal.invariant-loop-i
invariant-loop-i l = is_called_early (later_functions (drop l.i l.here)) (later_functions l.there) ≡ is_called_early (later_functions l.here) (later_functions l.there)
