use Rattle.es_code_contexts.specs.Terms.{program_of, terms_of}
use Rattle.es_steps.specs.Meaning.{means}
use Rattle.step_check.proofs.compare.compare_to.Goals as goal

pub returns-in-Ok : goal.returns-in-Ok
returns-in-Ok c = λ a may. c.judged_with.ensures a (means (terms_of c.args.lowered.now) (program_of c.args.lowered.now)) may c.in-Ok.ensures
