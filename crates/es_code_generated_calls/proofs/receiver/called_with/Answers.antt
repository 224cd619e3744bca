use Rattle.std.proofs.Common.{sym, ◌∙◌}
use Rattle.std.proofs.lemmas.Result.{IfOk-weaker}
use Rattle.es_codes.specs.CodeView.{codes_of}
use Rattle.es_code_reading.specs.Contexts.{context_of}
use Rattle.es_code_generated_calls.proofs.ReceiverForms.{on_name, on_no_name}
use Rattle.es_code_generated_calls.proofs.receiver.called_with.Goals as goal

pub returns-in-Name : goal.returns-in-Name
returns-in-Name c = IfOk-weaker c.called_name.result _ _ (λ e h. h ∙ sym (on_name (context_of c.args.c.now) c.args.node (codes_of c.args.arguments) c.args.function c.in-Name.identifier c.in-Name.spelling c.in-Name.kind c.in-Name.is)) c.called_name.ensures

pub returns-in_default : goal.returns-in_default
returns-in_default c = IfOk-weaker c.function_received.result _ _ (λ e h. h ∙ sym (on_no_name (context_of c.args.c.now) c.args.node (codes_of c.args.arguments) c.args.function c.in_default.not-Name)) c.function_received.ensures
