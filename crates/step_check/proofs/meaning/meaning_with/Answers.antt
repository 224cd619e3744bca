use Rattle.std.proofs.Common.{ℕ, List, sym, ap, subst, Option, Some}
use Rattle.es_code_contexts.specs.Terms.{program_of, terms_of}
use Rattle.es_codes.specs.CodeView.{code_of}
use Rattle.es_meanings.specs.Finding.{Found}
use Rattle.es_meanings.specs.Means.{IsMeaning}
use Rattle.es_program_meaning.specs.Runs.{listed_run}
use Rattle.es_steps.specs.Meaning.{MemberEntry, member_entries, private_functions, with_all}
use Rattle.step_check.proofs.Assembled.{passed_on}
use Rattle.step_check.specs.Evaluated.{IsStanding}
use Rattle.step_check.proofs.meaning.meaning_with.Goals as goal

pub returns-in-Ok : goal.returns-in-Ok
returns-in-Ok c = λ e is.
    let o = terms_of c.args.terms.now in
    let t = program_of c.args.terms.now in
    let d = private_functions (code_of c.args.code.now) in
    let s = c.in-Ok.ensures in
    subst (λ (ms : Option (List (ℕ × MemberEntry))). Found c.joined.result (with_all o t d (Some (listed_run e.run)) (Some e.entries) ms (Some e.exports)) IsMeaning) (sym s.has) (c.joined.ensures d e s.value is s.is)

pub returns-in-Err : goal.returns-in-Err
returns-in-Err c = λ e is.
    let o = terms_of c.args.terms.now in
    let t = program_of c.args.terms.now in
    let d = private_functions (code_of c.args.code.now) in
    passed_on c.in-Err.fault (member_entries d o.members) (with_all o t d (Some (listed_run e.run)) (Some e.entries) (member_entries d o.members) (Some e.exports)) (IsStanding o t d) IsMeaning
    (λ none. ap (λ (ms : Option (List (ℕ × MemberEntry))). with_all o t d (Some (listed_run e.run)) (Some e.entries) ms (Some e.exports)) none)
    c.in-Err.ensures
