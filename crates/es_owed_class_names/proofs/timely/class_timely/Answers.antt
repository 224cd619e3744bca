use Rattle.std.proofs.Common.{◌≡◌, ap, ◌∙◌}
use Rattle.es_binding_faults.proofs.Appending.{IfOk-map}
use Rattle.es_lowered.specs.ClassNames.{class_timely, new_names_fit, without}
use Rattle.es_owed_class_names.proofs.AskedNames.{fitting, unfit}
use Rattle.es_owed_class_names.specs.Asked.{read_in_time}
use Rattle.es_owed_class_names.proofs.timely.class_timely.Goals as goal

pub returns-then-not-branch : goal.returns-then-not-branch
returns-then-not-branch c =
    let lowering = c.args.lowering.now in
    let first = lowering.first in
    let n = c.args.class in
    let ledger = lowering.reads.ledger.now in
    let p = lowering.source.now.program.now in
    let q = lowering.lowered.now.program.now in
    let source = c.get-in_source.result.now in
    let names = c.in_ok-names.names.items in
    let others = c.in_ok-new.new.items in
    unfit first n ledger p q source names others c.in_ok-new_names_fit.field-0
    (c.get-in_source.ensures ∙ lowering.source_names_are n c.requires)
    c.in_ok-names.ensures
    (c.in_ok-new.ensures ∙ ap (λ ns. without source ns) c.as_slice.ensures.value)
    (c.in_ok-new_names_fit.ensures ∙ ap (λ ns. new_names_fit first p q n ns) c.as_slice-2.ensures.value)
    c.if-not-branch.true

pub returns : goal.returns
returns c =
    let lowering = c.args.lowering.now in
    let first = lowering.first in
    let n = c.args.class in
    let ledger = lowering.reads.ledger.now in
    let p = lowering.source.now.program.now in
    let q = lowering.lowered.now.program.now in
    let source = c.get-in_source.result.now in
    let names = c.in_ok-names.names.items in
    let others = c.in_ok-new.new.items in
    IfOk-map c.are_read_in_time.result
    (λ holds. holds ≡ read_in_time first ledger q n c.as_slice-3.result.now)
    (λ holds. holds ≡ class_timely first ledger p q n)
    (λ holds is.
    fitting first n ledger p q source names others c.in_ok-new_names_fit.field-0 holds
    (c.get-in_source.ensures ∙ lowering.source_names_are n c.requires)
    c.in_ok-names.ensures
    (c.in_ok-new.ensures ∙ ap (λ ns. without source ns) c.as_slice.ensures.value)
    (c.in_ok-new_names_fit.ensures ∙ ap (λ ns. new_names_fit first p q n ns) c.as_slice-2.ensures.value)
    c.if-not-branch.false
    (is ∙ ap (λ ns. read_in_time first ledger q n ns) c.as_slice-3.ensures.value)) c.are_read_in_time.ensures
