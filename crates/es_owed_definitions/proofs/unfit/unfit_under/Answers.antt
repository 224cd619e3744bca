use Rattle.std.proofs.Common.{◌≡◌, ◌∙◌, ap, ℕ, Option}
use Rattle.es_base.specs.Preorder.{preorder}
use Rattle.es_binding_faults.proofs.Appending.{IfOk-map}
use Rattle.es_seen_names.specs.PrivateMembers.{private_members_of}
use Rattle.es_steps.specs.PrivateNames.{private_members}
use Rattle.es_owed_definitions.proofs.UnfitClasses.{same_terms}
use Rattle.es_owed_definitions.specs.Unfit.{first_unfit}
use Rattle.es_owed_definitions.proofs.unfit.unfit_under.Goals as goal

pub returns : goal.returns
returns c =
    let x = c.in_ok-lowered.lowered.terms in
    let y = c.args.terms in
    let p = c.args.source.now.program.now in
    let ms = private_members_of c.in_ok-lowered.lowered.members.now in
    let q = c.in_ok-lowered.lowered.listed.now.program.now in
    let r = c.args.lowered.now.program.now in
    IfOk-map c.unfit_in.result
    (λ (n : Option ℕ). n ≡ first_unfit x.first x.options.now x.ledger.now ms p q (preorder p))
    (λ (n : Option ℕ). n ≡ first_unfit y.first y.options.now y.ledger.now (private_members p) p r (preorder p))
    (λ (n : Option ℕ) (e : n ≡ first_unfit x.first x.options.now x.ledger.now ms p q (preorder p)). e ∙ same_terms x y ms (private_members p) p q r (preorder p) c.in_ok-lowered.ensures.terms (ap private_members_of (c.in_ok-lowered.ensures.members ∙ c.as_slice.ensures.value) ∙ c.in_ok-members.ensures) c.in_ok-lowered.ensures.program)
    c.unfit_in.ensures
