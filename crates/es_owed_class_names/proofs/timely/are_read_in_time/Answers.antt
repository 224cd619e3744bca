use Rattle.std.proofs.Common.{◌≡◌, sym, ap, ◌∙◌, ◌&&◌}
use Rattle.es_base.specs.Preorder.{preorder}
use Rattle.es_binding_faults.proofs.Appending.{IfOk-map}
use Rattle.es_lowered.specs.ClassNames.{any_name, asked_references, class_runs, moved_functions, names_holding, numbers_inside, stand_in_time, without}
use Rattle.es_marks.specs.Marks.{marks_of}
use Rattle.es_owed_class_names.proofs.AskedNames.{in_time, none_read}
use Rattle.es_owed_class_names.proofs.HeldNames.{not_held}
use Rattle.es_owed_class_names.proofs.KeptPlaces.{among_marks}
use Rattle.es_owed_class_names.specs.Asked.{read_in_time}
use Rattle.es_owed_class_names.specs.HeldNumbers.{held_numbers}
use Rattle.es_owed_class_names.specs.NodeMarks.{stand_among}
use Rattle.es_owed_references.proofs.Steps.{same_among}
use Rattle.es_owed_references.specs.Moved.{functions_of}
use Rattle.es_owed_class_names.proofs.timely.are_read_in_time.Goals as goal

pub returns-then-is_none : goal.returns-then-is_none
returns-then-is_none c =
    let lowering = c.args.lowering.now in
    none_read lowering.first c.args.class lowering.reads.ledger.now lowering.lowered.now.program.now c.args.names.now (sym c.is_none.ensures ∙ c.if-is_none.true)

pub returns-then-not-any_among : goal.returns-then-not-any_among
returns-then-not-any_among c =
    let lowering = c.args.lowering.now in
    let n = c.args.class in
    let ledger = lowering.reads.ledger.now in
    let q = lowering.lowered.now.program.now in
    let names = c.args.names.now in
    let held = held_numbers (moved_functions ledger (preorder q)) in
    IfOk-map c.names_in_time.result
    (λ holds. holds ≡ stand_in_time lowering.first q n (without (numbers_inside n (preorder q)) names))
    (λ holds. holds ≡ read_in_time lowering.first ledger q n names)
    (λ holds is. is ∙ sym (not_held lowering.first n ledger q names (sym (same_among lowering.held held names lowering.held_are) ∙ sym c.any_among.ensures ∙ c.if-not-any_among.true))) c.names_in_time.ensures

pub returns : goal.returns
returns c =
    let lowering = c.args.lowering.now in
    let n = c.args.class in
    let ledger = lowering.reads.ledger.now in
    let q = lowering.lowered.now.program.now in
    let names = c.args.names.now in
    let functions = c.in_ok-functions.functions.items in
    let early = c.in_ok-is_read_early.ensures ∙ ap (λ fs. class_runs n (preorder q) && any_name (names_holding names (functions_of fs))) c.as_slice.ensures.value in
    let asked = c.as_slice-3.ensures.value ∙ c.in_ok-asked.ensures ∙ ap (λ fs. asked_references ledger q n (functions_of fs) names) c.as_slice-2.ensures.value in
    IfOk-map c.stand_in_time.result
    (λ holds. holds ≡ stand_among (marks_of lowering.marks.marks.now) n c.as_slice-3.result.now)
    (λ holds. holds ≡ read_in_time lowering.first ledger q n names)
    (λ holds is. in_time lowering.first n ledger q names c.as_slice-3.result.now (functions_of functions) c.in_ok-is_read_early.field-0 holds c.in_ok-functions.ensures early c.if-branch.false asked
    (is ∙ ap (λ ms. stand_among ms n c.as_slice-3.result.now) lowering.marks_are ∙ among_marks lowering.first n c.as_slice-3.result.now q)) c.stand_in_time.ensures
