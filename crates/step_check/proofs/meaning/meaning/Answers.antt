use Rattle.std.proofs.Common.{subst}
use Rattle.es_code_contexts.specs.Terms.{program_of, terms_of}
use Rattle.es_meanings.specs.Finding.{Finds}
use Rattle.es_meanings.specs.Means.{IsMeaning}
use Rattle.es_steps.specs.Code.{Code}
use Rattle.es_steps.specs.Meaning.{means_of}
use Rattle.step_check.proofs.meaning.meaning.Goals as goal

pub returns-in-Ok : goal.returns-in-Ok
returns-in-Ok c =
    let o = c.args.terms.now in
    subst (λ (e : Code). Finds c.meaning_by.result (means_of (terms_of o) (program_of o) e) IsMeaning) c.in-Ok.ensures c.meaning_by.ensures
