use Rattle.std.proofs.Common.{◌≡◌, ◌∙◌, ap, Bool}
use Rattle.es_base.specs.Preorder.{preorder}
use Rattle.es_binding_faults.proofs.Appending.{IfOk-map}
use Rattle.es_binding_faults.specs.Seen.{seen}
use Rattle.es_lowered.specs.Definitions.{classes_fit}
use Rattle.es_seen_names.specs.PrivateMembers.{private_members_of}
use Rattle.es_owed_definitions.proofs.FieldFits.{same_classes}
use Rattle.es_owed_definitions.proofs.definitions.fields_stand.Goals as goal

pub returns : goal.returns
returns c =
    let x = c.args.lowered.now.terms in
    let members = private_members_of c.args.lowered.now.members.now in
    let p = c.args.source.now.names.program.now in
    let source = c.args.source.now.program.now in
    let q = c.args.lowered.now.listed.now.program.now in
    let ts = seen c.as_slice-nodes.result.now in
    IfOk-map c.classes_fit.result
    (λ (h : Bool). h ≡ classes_fit x.first x.options.now x.ledger.now members p q ts)
    (λ (h : Bool). h ≡ classes_fit x.first x.options.now x.ledger.now members source q (preorder source))
    (λ (h : Bool) (e : h ≡ classes_fit x.first x.options.now x.ledger.now members p q ts). e ∙ same_classes x members p source q ts (preorder source)
    c.args.source.now.are_named
    (ap seen c.as_slice-nodes.ensures.value ∙ c.args.source.now.in_preorder))
    c.classes_fit.ensures
