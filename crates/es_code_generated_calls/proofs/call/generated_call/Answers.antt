use Rattle.std.proofs.Common.{sym, ◌∙◌}
use Rattle.std.proofs.lemmas.Result.{IfOk-weaker}
use Rattle.es_codes.specs.CodeView.{codes_of}
use Rattle.es_code_reading.specs.Contexts.{context_of}
use Rattle.es_code_generated_calls.proofs.CallForms.{of_helper, of_helper_call, of_no_helper, of_super}
use Rattle.es_code_generated_calls.proofs.call.generated_call.Goals as goal

pub returns-in-Helper : goal.returns-in-Helper
returns-in-Helper c = IfOk-weaker c.helper_code.result _ _ (λ e h. h ∙ sym (of_helper (context_of c.args.c.now) c.args.node (codes_of c.args.arguments) _ c.args.callee c.in-Helper.helper c.in-Helper.is)) c.helper_code.ensures

pub returns-in-HelperCall : goal.returns-in-HelperCall
returns-in-HelperCall c = IfOk-weaker c.helper_call_call.result _ _ (λ e h. h ∙ sym (of_helper_call (context_of c.args.c.now) c.args.node (codes_of c.args.arguments) _ c.args.callee c.in-HelperCall.member c.in-HelperCall.helper c.in-HelperCall.of_member c.in-HelperCall.is)) c.helper_call_call.ensures

pub returns-in-Super : goal.returns-in-Super
returns-in-Super c = c.super_call_in.ensures ∙ sym (of_super (context_of c.args.c.now) c.args.node (codes_of c.args.arguments) _ c.args.callee c.in-Super.is)

pub returns-in_default : goal.returns-in_default
returns-in_default c = IfOk-weaker c.function_called.result _ _ (λ e h. h ∙ sym (of_no_helper (context_of c.args.c.now) c.args.node (codes_of c.args.arguments) c.args.callee c.in_default.not-Helper c.in_default.not-HelperCall c.in_default.not-Super)) c.function_called.ensures
