use Rattle.std.proofs.Common.{◌≡◌, drop}
use Rattle.es_marks.specs.Located.{located_of}
use Rattle.es_marks.specs.Marks.{mark_of}
use Rattle.es_marks.specs.Named.{any_behind, declares_name}
use Rattle.es_marks.proofs.in_time.is_dead.Given as goal

abbrev pub invariant-loop-other : goal.invariant-loop-other
invariant-loop-other l = any_behind (declares_name (mark_of l.mark)) l.place (located_of (drop l.other-index l.others)) ≡ any_behind (declares_name (mark_of l.mark)) l.place (located_of l.others)
