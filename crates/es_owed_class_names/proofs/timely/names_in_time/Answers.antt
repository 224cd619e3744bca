use Rattle.std.proofs.Common.{◌≡◌, ap, ◌∙◌}
use Rattle.es_base.specs.Preorder.{preorder}
use Rattle.es_binding_faults.proofs.Appending.{IfOk-map}
use Rattle.es_lowered.specs.ClassNames.{numbers_inside, stand_in_time, without}
use Rattle.es_marks.specs.Marks.{marks_of}
use Rattle.es_owed_class_names.proofs.KeptPlaces.{among_marks}
use Rattle.es_owed_class_names.specs.NodeMarks.{stand_among}
use Rattle.es_owed_class_names.proofs.timely.names_in_time.Goals as goal

pub returns : goal.returns
returns c =
    let lowering = c.args.lowering.now in
    let first = lowering.first in
    let n = c.args.class in
    let q = lowering.lowered.now.program.now in
    let names = c.args.names.now in
    let asked = c.as_slice-2.result.now in
    IfOk-map c.stand_in_time.result
    (λ holds. holds ≡ stand_among (marks_of lowering.marks.marks.now) n asked)
    (λ holds. holds ≡ stand_in_time first q n (without (numbers_inside n (preorder q)) names))
    (λ holds is.
    is
    ∙ ap (λ ms. stand_among ms n asked) lowering.marks_are
    ∙ among_marks first n asked q
    ∙ ap (λ ns. stand_in_time first q n ns)
    (c.as_slice-2.ensures.value
    ∙ c.in_ok-asked.ensures
    ∙ ap (λ ns. without ns names) (c.as_slice.ensures.value ∙ c.in_ok-inside.ensures)))
    c.stand_in_time.ensures
