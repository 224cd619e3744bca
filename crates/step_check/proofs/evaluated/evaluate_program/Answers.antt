use Rattle.std.proofs.Common.{List, subst}
use Rattle.es_code_contexts.specs.Terms.{program_of, terms_of}
use Rattle.es_codes.specs.CodeView.{code_of}
use Rattle.es_meanings.specs.Finding.{Finds}
use Rattle.es_steps.specs.Opening.{Definition, opening}
use Rattle.step_check.specs.Evaluated.{IsEvaluated, found_in}
use Rattle.step_check.proofs.evaluated.evaluate_program.Goals as goal

pub returns-in-Ok : goal.returns-in-Ok
returns-in-Ok c =
    let o = c.args.terms.now in
    subst (λ (ds : List Definition). Finds c.evaluate_among.result (found_in (opening ds) (terms_of o) (program_of o) (code_of c.args.code.now)) IsEvaluated) c.in-Ok.ensures c.evaluate_among.ensures
