use Rattle.std.proofs.Common.{sym, ◌∙◌}
use Rattle.std.proofs.lemmas.Result.{IfOk-weaker}
use Rattle.es_code_members.specs.MembersView.{member_of}
use Rattle.es_code_reading.specs.Contexts.{context_of}
use Rattle.es_code_generated_calls.proofs.CallForms.{optionally, unconditionally}
use Rattle.es_code_generated_calls.proofs.call.call_code.Goals as goal

pub returns-then-flag_of : goal.returns-then-flag_of
returns-then-flag_of c = IfOk-weaker c.optional_call.result _ _ (λ e h. h ∙ optionally (context_of c.args.c.now) c.args.node (member_of c.args.callee.now) (member_of c.args.arguments.now) (member_of c.args.is_optional.now) _ _ (sym c.flag_of.ensures ∙ c.if-flag_of.true) c.take_code-callee.ensures c.in_ok-arguments.ensures) c.optional_call.ensures

pub returns-else-flag_of : goal.returns-else-flag_of
returns-else-flag_of c = IfOk-weaker c.generated_call.result _ _ (λ e h. h ∙ unconditionally (context_of c.args.c.now) c.args.node (member_of c.args.callee.now) (member_of c.args.arguments.now) (member_of c.args.is_optional.now) _ _ (sym c.flag_of.ensures ∙ c.if-flag_of.false) c.take_code-callee.ensures c.in_ok-arguments.ensures) c.generated_call.ensures
