use Rattle.std.proofs.Common.{ap, ◌∙◌}
use Rattle.std.proofs.lemmas.Result.{IfOk-weaker}
use Rattle.es_codes.specs.CodeView.{code_of, codes_of}
use Rattle.es_steps.specs.GeneratedForms as spec
use Rattle.es_code_generated_calls.proofs.receiver.function_received.Goals as goal

pub returns : goal.returns
returns c = IfOk-weaker c.getter_or_received.result _ _ (λ e h. h ∙ ap (λ o. spec.getter_or_received c.args.node o (code_of c.args.function) (codes_of c.args.arguments)) c.private_function-member.ensures) c.getter_or_received.ensures
