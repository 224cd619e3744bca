use Rattle.std.proofs.Common.{◌∙◌}
use Rattle.std.proofs.lemmas.Result.{IfOk-weaker}
use Rattle.es_code_assignments.proofs.Signs.{last_left_out}
use Rattle.es_code_assignments.proofs.assignment.without_sign.Goals as goal

pub returns : goal.returns
returns c = IfOk-weaker c.new.result _ _ (λ s h. h ∙ last_left_out c.chars-rest.result c.next_back.new.self c.next_back.result c.args.operator.now c.as_str.result.now c.next_back.ensures.steps c.chars-rest.ensures.rest c.as_str.ensures c.utf8.operator c.as_str.utf8) c.new.ensures
