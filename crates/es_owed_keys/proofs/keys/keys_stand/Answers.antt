use Rattle.std.proofs.Common.{◌≡◌, ap, ◌∙◌, Bool, List}
use Rattle.es_base.specs.Preorder.{preorder}
use Rattle.es_binding_faults.proofs.Appending.{IfOk-map}
use Rattle.es_lowered.specs.Definitions as definitions
use Rattle.es_lowered.specs.Lowered as spec
use Rattle.es_owed_initialized.specs.Keys.{keys_of}
use Rattle.es_owed_keys.proofs.Unlowered.{with_keys}
use Rattle.es_owed_keys.proofs.keys.keys_stand.Goals as goal
use Rattle.es_seen_names.specs.PrivateMembers.{private_members_of}
use Rattle.es_steps.specs.PrivateNames as privates

pub returns : goal.returns
returns c =
    let first = c.args.first in
    let o = c.args.options.now in
    let ledger = c.args.ledger.now in
    let members = privates.private_members c.args.source.now.program.now in
    let q = c.args.lowered.now.program.now in
    let x = c.in_ok-program.program in
    let given =
    ap keys_of c.as_slice-2.ensures.value
    ∙ c.in_ok-temporaries.ensures
    ∙ ap (λ t. definitions.all_temporaries t.first t.options.now t.ledger.now (private_members_of x.members.now) x.listed.now.program.now (preorder x.listed.now.program.now)) c.in_ok-program.ensures.terms
    ∙ ap (λ p. definitions.all_temporaries first o ledger (private_members_of x.members.now) p (preorder p)) c.in_ok-program.ensures.program
    ∙ ap (λ ms. definitions.all_temporaries first o ledger (private_members_of ms) q (preorder q)) (c.in_ok-program.ensures.members ∙ c.as_slice.ensures.value)
    ∙ ap (λ ms. definitions.all_temporaries first o ledger ms q (preorder q)) c.in_ok-members.ensures in
    IfOk-map c.keys_stand.result
    (λ (holds : Bool). (ms : List privates.PrivateMember) → holds ≡ spec.keys_stand first o ledger ms q (keys_of c.as_slice-2.result.now))
    (λ (holds : Bool). holds ≡ spec.keys_stand first o ledger members q (definitions.all_temporaries first o ledger members q (preorder q)))
    (λ holds h. with_keys first o ledger members q holds _ _ given (h members))
    c.keys_stand.ensures
