use Rattle.std.proofs.Common.{◌≡◌, ◌++◌, drop}
use Rattle.es_lowered.specs.Timely.{uses_of}
use Rattle.es_marks.specs.Around.{around_here}
use Rattle.es_marks.specs.Marks.{marks_of}
use Rattle.es_owed_timely.specs.Needed.{names_of}
use Rattle.es_owed_timely.proofs.search.add_needed.Given as goal

abbrev pub invariant-loop-entry : goal.invariant-loop-entry
invariant-loop-entry l = marks_of l.marks.items ++ uses_of (around_here l.around) (names_of (drop l.entry-index l.entries)) ≡ marks_of l.fn.marks.items ++ uses_of (around_here l.around) (names_of l.entries)
