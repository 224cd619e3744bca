use Rattle.std.proofs.Common.{◌≡◌, drop, false}
use Rattle.es_lowered.specs.Timely.{gives_in_time}
use Rattle.es_marks.specs.Located.{located_of}
use Rattle.es_marks.specs.Marks.{mark_of}
use Rattle.es_marks.specs.Named.{any_behind}
use Rattle.es_marks.proofs.in_time.is_given_behind.Given as goal

abbrev pub invariant-loop-other : goal.invariant-loop-other
invariant-loop-other l = any_behind (gives_in_time false (mark_of l.mark)) l.place (located_of (drop l.other-index l.others)) ≡ any_behind (gives_in_time false (mark_of l.mark)) l.place (located_of l.others)
