use Rattle.std.proofs.Common.{sym, ap, ap₂, ◌∙◌, Bool, not, ◌&&◌, ◌||◌}
use Rattle.std.specs.List.{list_all}
use Rattle.es_grouped.specs.Groups.{group}
use Rattle.es_marks.specs.Located.{located, located_of}
use Rattle.es_marks.specs.Marks.{marks_of}
use Rattle.es_owed_class_names.specs.KeptPlaces.{stands_own}
use Rattle.es_owed_class_names.specs.LocatedMarks.{is_behind_any}
use Rattle.es_owed_places.specs.Placed.{references_of}
use Rattle.es_owed_class_names.proofs.kept_places.is_kept.Goals as goal

pub returns-then-not-is_late : goal.returns-then-not-is_late
returns-then-not-is_late c =
    let lowering = c.args.lowering.now in
    let m = c.args.number in
    let own = list_all (stands_own lowering.first c.args.marks.now.names.now (λ k. references_of (group k lowering.source_placed))) in
    let found : Bool = is_behind_any (located_of c.args.marks.now.found.items) (located 0 (marks_of lowering.marks.marks.now)) m in
    let stands = c.stand_own.ensures ∙ ap (λ rs. own (references_of rs)) c.get-references.ensures in
    let late = c.is_late.ensures ∙ ap (λ fs. is_behind_any (located_of fs) (located 0 (marks_of lowering.source_marks.marks.now)) m) c.as_slice.ensures.value in
    ap not c.if-not-is_late.true
    ∙ ap₂ (λ a b. a && (not b || found)) (sym c.if-stand_own.true ∙ stands) (sym c.if-not-is_late.true ∙ late)

pub returns-else-not-is_late : goal.returns-else-not-is_late
returns-else-not-is_late c =
    let lowering = c.args.lowering.now in
    let m = c.args.number in
    let own = list_all (stands_own lowering.first c.args.marks.now.names.now (λ k. references_of (group k lowering.source_placed))) in
    let found : Bool = is_behind_any (located_of c.args.marks.now.found.items) (located 0 (marks_of lowering.marks.marks.now)) m in
    let stands = c.stand_own.ensures ∙ ap (λ rs. own (references_of rs)) c.get-references.ensures in
    let late = c.is_late.ensures ∙ ap (λ fs. is_behind_any (located_of fs) (located 0 (marks_of lowering.source_marks.marks.now)) m) c.as_slice.ensures.value in
    c.is_late-else-not-is_late.ensures
    ∙ ap (λ fs. is_behind_any (located_of fs) (located 0 (marks_of lowering.marks.marks.now)) m) c.as_slice-else-not-is_late.ensures.value
    ∙ ap₂ (λ a b. a && (not b || found)) (sym c.if-stand_own.true ∙ stands) (sym c.if-not-is_late.false ∙ late)
