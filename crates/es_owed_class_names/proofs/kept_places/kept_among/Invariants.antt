use Rattle.std.proofs.Common.{◌≡◌, ◌++◌, drop}
use Rattle.es_grouped.specs.Groups.{group}
use Rattle.es_marks.specs.Located.{located, located_of}
use Rattle.es_marks.specs.Marks.{marks_of}
use Rattle.es_owed_places.specs.Placed.{references_of}
use Rattle.es_owed_class_names.specs.KeptPlaces.{kept}
use Rattle.es_owed_class_names.specs.LocatedMarks.{is_behind_any}
use Rattle.es_owed_class_names.proofs.kept_places.kept_among.Given as goal

abbrev pub invariant-loop-number : goal.invariant-loop-number
invariant-loop-number l =
    let of = kept l.lowering.first l.marks.names.now (λ k. references_of (group k l.lowering.source_placed)) (λ k. references_of (group k l.lowering.placed)) (is_behind_any (located_of l.marks.there.items) (located 0 (marks_of l.lowering.source_marks.marks.now))) (is_behind_any (located_of l.marks.found.items) (located 0 (marks_of l.lowering.marks.marks.now))) in
    l.kept.items ++ of (drop l.number-index l.numbers) ≡ of l.numbers
