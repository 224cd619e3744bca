use Rattle.std.proofs.Common.{◌∙◌}
use Rattle.std.proofs.lemmas.Result.{IfOk-weaker}
use Rattle.es_codes.specs.CodeView.{codes_of}
use Rattle.es_code_reading.specs.Contexts.{context_of}
use Rattle.es_codes.specs.View.{kind_of}
use Rattle.es_code_generated_calls.proofs.ReceiverForms.{no_super_function}
use Rattle.es_code_generated_calls.proofs.receiver.called_name.Goals as goal

pub returns-in-None : goal.returns-in-None
returns-in-None c = IfOk-weaker c.function_received.result _ _ (λ e h. h ∙ no_super_function (context_of c.args.c.now) c.args.node c.args.identifier c.args.name (kind_of c.args.kind) (codes_of c.args.arguments) _ c.in-None.ensures c.name-function.ensures) c.function_received.ensures
