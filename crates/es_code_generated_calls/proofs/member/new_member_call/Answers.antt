use Rattle.std.proofs.Common.{ap, ◌∙◌}
use Rattle.std.proofs.lemmas.Result.{IfOk-weaker}
use Rattle.es_codes.specs.CodeView.{code_of, codes_of}
use Rattle.es_code_reading.specs.Contexts.{context_of}
use Rattle.es_steps.specs.GeneratedForms as spec
use Rattle.es_code_generated_calls.proofs.MemberForms.{a_call}
use Rattle.es_code_generated_calls.proofs.member.new_member_call.Goals as goal

pub returns-in-Call : goal.returns-in-Call
returns-in-Call c = IfOk-weaker c.called_with.result _ _ (λ e h. h ∙ ap (λ f. spec.called_with (context_of c.args.c.now) c.args.node (code_of f) (codes_of c.args.arguments)) c.into_inner.ensures ∙ a_call (context_of c.args.c.now) c.args.node c.args.member (code_of c.args.object) (code_of c.args.key) (codes_of c.args.arguments) _ c.in-Call.ensures) c.called_with.ensures
