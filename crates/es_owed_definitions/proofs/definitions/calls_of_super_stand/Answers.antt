use Rattle.std.proofs.Common.{◌≡◌, ◌∙◌, ap, Bool}
use Rattle.es_base.specs.Preorder.{preorder}
use Rattle.es_binding_faults.proofs.Appending.{IfOk-map}
use Rattle.es_binding_faults.specs.Seen.{seen}
use Rattle.es_lowered.specs.Definitions.{supers_stand}
use Rattle.es_references.specs.References.{references_of}
use Rattle.es_steps.specs.References.{resolve}
use Rattle.es_owed_definitions.proofs.FieldFits.{same_supers}
use Rattle.es_owed_definitions.proofs.definitions.calls_of_super_stand.Goals as goal

pub returns : goal.returns
returns c =
    let lowered = c.args.lowered.now in
    let x = lowered.terms in
    let q = lowered.listed.now.program.now in
    let rs = references_of c.as_slice.result.now in
    let ts = seen c.nodes.result.now in
    IfOk-map c.supers_stand.result
    (λ (h : Bool). h ≡ supers_stand x.first x.options.now x.ledger.now rs ts)
    (λ (h : Bool). h ≡ supers_stand x.first x.options.now x.ledger.now (resolve q) (preorder q))
    (λ (h : Bool) (e : h ≡ supers_stand x.first x.options.now x.ledger.now rs ts). e ∙ same_supers x rs (resolve q) ts (preorder q)
    (ap references_of c.as_slice.ensures.value ∙ lowered.listed.now.are_resolved)
    c.nodes.ensures)
    c.supers_stand.ensures
