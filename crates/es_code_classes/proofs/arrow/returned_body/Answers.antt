use Rattle.std.proofs.Common.{sym, ◌∙◌}
use Rattle.std.proofs.lemmas.Result.{IfOk-weaker}
use Rattle.es_code_classes.proofs.Returns.{steps_body}
use Rattle.es_code_classes.proofs.arrow.returned_body.Goals as goal

pub returns-in-Steps : goal.returns-in-Steps
returns-in-Steps c = IfOk-weaker c.returned_steps.result _ _ (λ e h. h ∙ sym (steps_body c.args.body c.in-Steps.all c.in-Steps.is)) c.returned_steps.ensures
