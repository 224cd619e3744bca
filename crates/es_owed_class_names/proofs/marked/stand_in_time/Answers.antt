use Rattle.std.proofs.Common.{◌≡◌, sym, ap, ◌∙◌, ◌∷◌, [], filter, ◌||◌}
use Rattle.es_binding_faults.proofs.Appending.{IfOk-map}
use Rattle.es_lowered.specs.ClassNames.{any_among, stand_behind}
use Rattle.es_marks.specs.Marks.{marks_of}
use Rattle.es_owed_class_names.specs.NodeMarks.{stand_among}
use Rattle.es_owed_class_names.proofs.marked.stand_in_time.Goals as goal

pub returns : goal.returns
returns c =
    let ms = marks_of c.args.marks.now.marks.now in
    let n = c.args.class in
    let names = c.args.names.now in
    IfOk-map c.stand_behind.result
    (λ b. b ≡ stand_behind [] (filter (λ m. any_among c.as_slice.result.now m.node) ms))
    (λ b. b ≡ stand_among ms n names)
    (λ b is.
    is
    ∙ ap (λ ks. stand_behind [] (filter (λ m. any_among ks m.node) ms)) (c.as_slice.ensures.value ∙ c.in_ok-asked.ensures)
    ∙ ap (λ t. t || stand_behind [] (filter (λ m. any_among (n ∷ names) m.node) ms)) (sym c.if-is_none.false ∙ c.is_none.ensures))
    c.stand_behind.ensures
