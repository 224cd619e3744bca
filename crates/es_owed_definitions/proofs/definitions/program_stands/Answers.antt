use Rattle.std.proofs.Common.{◌≡◌, ◌∙◌, ap, Bool}
use Rattle.es_binding_faults.proofs.Appending.{IfOk-map}
use Rattle.es_seen_names.specs.PrivateMembers.{private_members_of}
use Rattle.es_steps.specs.PrivateNames.{private_members}
use Rattle.es_owed_definitions.proofs.FieldFits.{same_program}
use Rattle.es_owed_definitions.specs.Fields.{program_fits}
use Rattle.es_owed_definitions.proofs.definitions.program_stands.Goals as goal

pub returns : goal.returns
returns c =
    let x = c.in_ok-lowered.lowered.terms in
    let y = c.args.terms in
    let p = c.args.source.now.program.now in
    let ms = private_members_of c.in_ok-lowered.lowered.members.now in
    let q = c.in_ok-lowered.lowered.listed.now.program.now in
    let r = c.args.lowered.now.program.now in
    IfOk-map c.program_fits.result
    (λ (h : Bool). h ≡ program_fits x ms p q)
    (λ (h : Bool). h ≡ program_fits y (private_members p) p r)
    (λ (h : Bool) (e : h ≡ program_fits x ms p q). e ∙ same_program x y ms (private_members p) p q r c.in_ok-lowered.ensures.terms (ap private_members_of (c.in_ok-lowered.ensures.members ∙ c.as_slice.ensures.value) ∙ c.in_ok-members.ensures) c.in_ok-lowered.ensures.program)
    c.program_fits.ensures
