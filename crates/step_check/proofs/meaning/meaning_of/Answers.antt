use Rattle.std.proofs.Common.{sym, subst, Option}
use Rattle.es_code_contexts.specs.Terms.{program_of, terms_of}
use Rattle.es_codes.specs.CodeView.{code_of}
use Rattle.es_meanings.specs.Finding.{Finds}
use Rattle.es_meanings.specs.Means.{IsMeaning}
use Rattle.es_steps.specs.Meaning.{Meaning, means_of}
use Rattle.es_steps.specs.Opening.{definitions, opening}
use Rattle.step_check.proofs.Assembled.{none_evaluated, passed_on, with_found}
use Rattle.step_check.specs.Evaluated.{IsEvaluated, found_in}
use Rattle.step_check.proofs.meaning.meaning_of.Goals as goal

pub returns-in-Ok : goal.returns-in-Ok
returns-in-Ok c =
    let o = terms_of c.args.terms.now in
    let t = program_of c.args.terms.now in
    let e = code_of c.args.code.now in
    let f = c.in-Ok.ensures in
    subst (λ (m : Option Meaning). Finds c.meaning_with.result m IsMeaning) (sym (with_found (opening (definitions e)) o t e f.value f.has)) (c.meaning_with.ensures f.value f.is)

pub returns-in-Err : goal.returns-in-Err
returns-in-Err c =
    let o = terms_of c.args.terms.now in
    let t = program_of c.args.terms.now in
    let e = code_of c.args.code.now in
    passed_on c.in-Err.fault (found_in (opening (definitions e)) o t e) (means_of o t e) IsEvaluated IsMeaning (none_evaluated (opening (definitions e)) o t e) c.in-Err.ensures
