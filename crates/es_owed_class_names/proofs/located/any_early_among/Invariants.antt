use Rattle.std.proofs.Common.{◌≡◌, drop}
use Rattle.std.specs.List.{list_any}
use Rattle.es_marks.specs.Located.{located_of}
use Rattle.es_owed_class_names.specs.LocatedMarks.{is_early}
use Rattle.es_owed_class_names.proofs.located.any_early_among.Given as goal

abbrev pub invariant-loop-mark : goal.invariant-loop-mark
invariant-loop-mark l = list_any (is_early (located_of l.fronts)) (located_of (drop l.mark-index l.marks)) ≡ list_any (is_early (located_of l.fronts)) (located_of l.marks)
