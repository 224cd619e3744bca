use Rattle.std.proofs.Common.{sym, ◌∙◌}
use Rattle.std.proofs.lemmas.Result.{IfOk-weaker}
use Rattle.es_codes.specs.CodeView.{codes_of}
use Rattle.es_code_reading.specs.Contexts.{context_of}
use Rattle.es_code_generated_calls.proofs.CallForms.{of_function, of_member, of_name, of_other}
use Rattle.es_code_generated_calls.proofs.call.function_called.Goals as goal

pub returns-in-Member : goal.returns-in-Member
returns-in-Member c = IfOk-weaker c.new_member_call.result _ _ (λ e h. h ∙ sym (of_member (context_of c.args.c.now) c.args.node (codes_of c.args.arguments) c.args.callee c.in-Member.member c.in-Member.object c.in-Member.key c.in-Member.is)) c.new_member_call.ensures

pub returns-in-NewFunction : goal.returns-in-NewFunction
returns-in-NewFunction c = IfOk-weaker c.new_function_call.result _ _ (λ e h. h ∙ sym (of_function (context_of c.args.c.now) c.args.node (codes_of c.args.arguments) c.args.callee c.in-NewFunction.node c.in-NewFunction.form c.in-NewFunction.parameters c.in-NewFunction.body c.in-NewFunction.is)) c.new_function_call.ensures

pub returns-in-Name : goal.returns-in-Name
returns-in-Name c = IfOk-weaker c.name_called.result _ _ (λ e h. h ∙ sym (of_name (context_of c.args.c.now) c.args.node (codes_of c.args.arguments) c.args.callee c.in-Name.identifier c.in-Name.spelling c.in-Name.kind c.in-Name.is)) c.name_called.ensures

pub returns-in_default : goal.returns-in_default
returns-in_default c = IfOk-weaker c.written_call.result _ _ (λ e h. h ∙ sym (of_other (context_of c.args.c.now) c.args.node (codes_of c.args.arguments) c.args.callee c.in_default.not-Member c.in_default.not-NewFunction c.in_default.not-Name)) c.written_call.ensures
