use Rattle.std.proofs.Common.{◌≡◌, drop}
use Rattle.std.specs.List.{list_any}
use Rattle.es_marks.specs.Located.{located_mark, located_of}
use Rattle.es_owed_class_names.specs.LocatedMarks.{is_front}
use Rattle.es_owed_class_names.proofs.located.any_front.Given as goal

abbrev pub invariant-loop-front : goal.invariant-loop-front
invariant-loop-front l = list_any (is_front (located_mark l.mark)) (located_of (drop l.front-index l.fronts)) ≡ list_any (is_front (located_mark l.mark)) (located_of l.fronts)
