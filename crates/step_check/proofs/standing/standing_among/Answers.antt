use Rattle.std.proofs.Common.{◌≡◌, ℕ, List, sym, subst, Option}
use Rattle.es_by_number.specs.Numbered.{pairs}
use Rattle.es_code_contexts.specs.Terms.{program_of, terms_of}
use Rattle.es_meanings.specs.Finding.{Finds}
use Rattle.es_member_entries.specs.Entries.{entries_in}
use Rattle.es_steps.specs.Meaning.{MemberEntry, by_number, member_entries}
use Rattle.step_check.proofs.Assembled.{passed_on}
use Rattle.step_check.specs.Evaluated.{IsStanding}
use Rattle.step_check.proofs.standing.standing_among.Goals as goal

pub returns-in-Ok : goal.returns-in-Ok
returns-in-Ok c =
    let o = terms_of c.args.terms.now in
    let t = program_of c.args.terms.now in
    let m = c.in-Ok.ensures in
    subst (λ (p : Option (List (ℕ × MemberEntry))). Finds c.standing_beside.result p (IsStanding o t (pairs c.args.functions.now))) (sym m.has) (c.standing_beside.ensures m.value m.is)

pub returns-in-Err : goal.returns-in-Err
returns-in-Err c =
    let o = terms_of c.args.terms.now in
    let t = program_of c.args.terms.now in
    let all = member_entries (pairs c.args.functions.now) o.members in
    passed_on c.in-Err.fault all all (λ xs es. entries_in xs.items ≡ by_number es) (IsStanding o t (pairs c.args.functions.now)) (λ none. none) c.in-Err.ensures
