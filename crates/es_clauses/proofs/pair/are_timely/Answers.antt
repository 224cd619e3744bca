use Rattle.std.proofs.Common.{◌≡◌, ap, subst, ◌∙◌, List, IfOk}
use Rattle.es_lowered.specs.Timely as spec
use Rattle.es_seen_names.specs.PrivateMembers.{private_members_of}
use Rattle.es_steps.specs.PrivateNames.{PrivateMember}
use Rattle.es_clauses.proofs.pair.are_timely.Goals as goal

pub returns : goal.returns
returns c =
    subst (λ (ms : List PrivateMember). IfOk c.names_timely.result (λ is_met. is_met ≡ spec.names_timely c.args.pair.now.first c.args.pair.now.ledger.now ms c.args.pair.now.lowered.program.now))
    (ap private_members_of c.as_slice.ensures.value ∙ c.in_ok-members.ensures)
    c.names_timely.ensures
