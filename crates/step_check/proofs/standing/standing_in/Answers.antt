use Rattle.std.proofs.Common.{ℕ, List, ap, subst, ◌∙◌}
use Rattle.es_by_number.specs.Numbered.{pairs}
use Rattle.es_code_contexts.specs.Terms.{program_of, terms_of}
use Rattle.es_meanings.specs.Finding.{Finds}
use Rattle.es_steps.specs.Meaning.{member_entries}
use Rattle.step_check.specs.Evaluated.{IsStanding}
use Rattle.step_check.proofs.standing.standing_in.Goals as goal

pub returns-in-Ok : goal.returns-in-Ok
returns-in-Ok c =
    let o = terms_of c.args.terms.now in
    let t = program_of c.args.terms.now in
    subst (λ (d : List (ℕ × ℕ)). Finds c.standing_among.result (member_entries d o.members) (IsStanding o t d)) (ap pairs c.as_slice.ensures.value ∙ c.in-Ok.ensures) c.standing_among.ensures
