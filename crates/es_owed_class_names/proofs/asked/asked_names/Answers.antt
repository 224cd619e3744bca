use Rattle.std.proofs.Common.{◌≡◌, ◌∙◌}
use Rattle.es_binding_faults.proofs.Appending.{IfOk-map}
use Rattle.es_lowered.specs.ClassNames.{without}
use Rattle.es_owed_class_names.proofs.AskedNames.{asked_among}
use Rattle.es_owed_class_names.specs.Asked.{asked_besides}
use Rattle.es_owed_class_names.proofs.asked.asked_names.Goals as goal

pub returns : goal.returns
returns c =
    let lowering = c.args.lowering.now in
    let first = lowering.first in
    let n = c.args.class in
    let ledger = lowering.reads.ledger.now in
    let p = lowering.source.now.program.now in
    let q = lowering.lowered.now.program.now in
    let kept = c.as_slice.result.now in
    let names = c.get.result.now in
    IfOk-map c.without.result
    (λ r. r.items ≡ without kept names)
    (λ r. r.items ≡ asked_besides first ledger p q n c.args.in_source.now)
    (λ r is. asked_among first n ledger p q c.args.in_source.now kept names r.items is (c.as_slice.ensures.value ∙ c.in_ok-kept.ensures) (c.get.ensures ∙ lowering.names_are n c.requires))
    c.without.ensures
