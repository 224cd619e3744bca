use Rattle.std.proofs.Common.{sym, ◌∙◌}
use Rattle.std.proofs.lemmas.Result.{IfOk-weaker}
use Rattle.es_code_generated_calls.proofs.ArrowForms.{steps_opened}
use Rattle.es_code_generated_calls.proofs.arrow.opened_body.Goals as goal

pub returns-in-Steps : goal.returns-in-Steps
returns-in-Steps c = IfOk-weaker c.opened_steps.result _ _ (λ e h. h ∙ sym (steps_opened c.args.body c.in-Steps.all c.in-Steps.is)) c.opened_steps.ensures
