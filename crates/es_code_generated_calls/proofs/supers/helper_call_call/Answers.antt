use Rattle.std.proofs.Common.{sym, ap, ◌∙◌}
use Rattle.std.proofs.lemmas.Result.{IfOk-weaker}
use Rattle.es_codes.specs.CodeView.{codes_of, helper_of}
use Rattle.es_code_reading.specs.Contexts.{context_of}
use Rattle.es_steps.specs.GeneratedForms as spec
use Rattle.es_code_generated_calls.proofs.SuperForms.{super_called_is}
use Rattle.es_code_generated_calls.proofs.supers.helper_call_call.Goals as goal

pub returns-in-SuperPropGet : goal.returns-in-SuperPropGet
returns-in-SuperPropGet c = IfOk-weaker c.super_called.result _ _ (λ e h. h ∙ super_called_is (context_of c.args.c.now) c.args.node c.args.member (codes_of c.args.of_member) (codes_of c.args.arguments) ∙ ap (λ k. spec.helper_call_call (context_of c.args.c.now) c.args.node c.args.member (helper_of k) (codes_of c.args.of_member) (codes_of c.args.arguments)) (sym c.in-SuperPropGet.is)) c.super_called.ensures
