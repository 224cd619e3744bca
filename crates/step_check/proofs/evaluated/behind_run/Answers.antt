use Rattle.std.proofs.Common.{[]}
use Rattle.std.specs.Prelude.{map}
use Rattle.es_code_contexts.specs.Terms.{program_of, terms_of}
use Rattle.es_code_rules.specs.Elsewhere.{definition_of}
use Rattle.es_codes.specs.CodeView.{code_of}
use Rattle.es_meanings.specs.Means.{AreEntries}
use Rattle.es_steps.specs.Entries.{entries}
use Rattle.es_steps.specs.Meaning.{by_number, whole}
use Rattle.es_steps.specs.Opening.{opening}
use Rattle.step_check.proofs.Assembled.{no_entries, passed_on}
use Rattle.step_check.specs.Evaluated.{IsEvaluated, found_in}
use Rattle.step_check.proofs.evaluated.behind_run.Goals as goal

pub returns-in-Ok : goal.returns-in-Ok
returns-in-Ok c = λ r runs is.
    let opens = opening (map definition_of c.args.definitions.now) in
    let es = c.in-Ok.ensures (terms_of c.args.terms.now).first_new in
    c.behind_entries.ensures opens (code_of c.args.code.now) r es.value runs is es.has es.is

pub returns-in-Err : goal.returns-in-Err
returns-in-Err c = λ r runs is.
    let o = terms_of c.args.terms.now in
    let t = program_of c.args.terms.now in
    let e = code_of c.args.code.now in
    let opens = opening (map definition_of c.args.definitions.now) in
    passed_on c.in-Err.fault (whole (entries opens o.first_new [] [] e)) (found_in opens o t e) (λ xs es. AreEntries xs.items (by_number es)) IsEvaluated (no_entries opens o t e r runs) (c.in-Err.ensures o.first_new)
