use Rattle.std.proofs.Common.{◌≡◌, drop, true}
use Rattle.es_lowered.specs.Timely.{gives_in_time}
use Rattle.es_marks.specs.Located.{located_of}
use Rattle.es_marks.specs.Marks.{mark_of}
use Rattle.es_marks.specs.Named.{any_front}
use Rattle.es_marks.proofs.in_time.is_given_in_front.Given as goal

abbrev pub invariant-loop-other : goal.invariant-loop-other
invariant-loop-other l = any_front (gives_in_time true (mark_of l.mark)) l.place (located_of (drop l.other-index l.others)) ≡ any_front (gives_in_time true (mark_of l.mark)) l.place (located_of l.others)
