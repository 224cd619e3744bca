use Rattle.std.proofs.Common.{◌≡◌, ◌++◌, drop}
use Rattle.es_marks.specs.Located.{located_of}
use Rattle.es_owed_class_names.specs.LocatedMarks.{class_marks}
use Rattle.es_owed_class_names.proofs.located.add_class_marks.Given as goal

abbrev pub invariant-loop-mark : goal.invariant-loop-mark
invariant-loop-mark l = located_of l.found.items ++ class_marks (located_of (drop l.mark-index l.marks)) ≡ located_of l.fn.found.items ++ class_marks (located_of l.marks)
