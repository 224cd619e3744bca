use Rattle.std.proofs.Common.{[]}
use Rattle.std.specs.Prelude.{map}
use Rattle.es_code_contexts.specs.Terms.{program_of, terms_of}
use Rattle.es_code_rules.specs.Elsewhere.{definition_of}
use Rattle.es_codes.specs.CodeView.{code_of}
use Rattle.es_program_meaning.specs.Runs.{IsRun}
use Rattle.es_steps.specs.Evaluation.{ev}
use Rattle.es_steps.specs.Opening.{opening}
use Rattle.step_check.proofs.Assembled.{no_run, passed_on}
use Rattle.step_check.specs.Evaluated.{IsEvaluated, found_in}
use Rattle.step_check.proofs.evaluated.evaluate_among.Goals as goal

pub returns-in-Ok : goal.returns-in-Ok
returns-in-Ok c = let r = c.in-Ok.ensures in c.behind_run.ensures r.value r.has r.is

pub returns-in-Err : goal.returns-in-Err
returns-in-Err c =
    let o = terms_of c.args.terms.now in
    let t = program_of c.args.terms.now in
    let e = code_of c.args.code.now in
    let opens = opening (map definition_of c.args.definitions.now) in
    passed_on c.in-Err.fault (ev opens e []) (found_in opens o t e) IsRun IsEvaluated (no_run opens o t e) c.in-Err.ensures
