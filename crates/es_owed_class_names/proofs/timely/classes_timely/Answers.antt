use Rattle.std.proofs.Common.{◌≡◌, ap, ◌∙◌}
use Rattle.es_base.specs.Preorder.{preorder}
use Rattle.es_binding_faults.proofs.Appending.{IfOk-map}
use Rattle.es_lowered.specs.ClassNames.{all_classes_timely, class_numbers, classes_timely}
use Rattle.es_owed_class_names.proofs.timely.classes_timely.Goals as goal

pub returns : goal.returns
returns c =
    let l = c.in_ok-lowering.lowering in
    let first = c.args.first in
    let ledger = c.args.ledger.now in
    let p = c.args.source.now.program.now in
    let q = c.args.lowered.now.program.now in
    IfOk-map c.all_classes_timely.result
    (λ holds. holds ≡ all_classes_timely l.first l.reads.ledger.now l.source.now.program.now l.lowered.now.program.now l.classes.items)
    (λ holds. holds ≡ classes_timely first ledger p q)
    (λ holds is.
    is
    ∙ ap (λ ns. all_classes_timely l.first l.reads.ledger.now l.source.now.program.now l.lowered.now.program.now ns) l.classes_are
    ∙ ap (λ t. all_classes_timely l.first l.reads.ledger.now t l.lowered.now.program.now (class_numbers (preorder t))) c.in_ok-lowering.ensures.source
    ∙ ap (λ t. all_classes_timely l.first l.reads.ledger.now p t (class_numbers (preorder p))) c.in_ok-lowering.ensures.lowered
    ∙ ap (λ es. all_classes_timely l.first es p q (class_numbers (preorder p))) c.in_ok-lowering.ensures.ledger
    ∙ ap (λ n. all_classes_timely n ledger p q (class_numbers (preorder p))) c.in_ok-lowering.ensures.first)
    c.all_classes_timely.ensures
