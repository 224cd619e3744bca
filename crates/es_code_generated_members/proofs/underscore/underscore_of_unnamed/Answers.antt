use Rattle.std.proofs.Common.{◌∙◌, sym, ap}
use Rattle.std.proofs.lemmas.Result.{IfOk-weaker}
use Rattle.es_steps.specs.GeneratedForms.{underscore_of}
use Rattle.es_code_reading.specs.Contexts.{context_of}
use Rattle.es_code_generated_members.specs.Accesses.{accessed}
use Rattle.es_code_generated_members.proofs.FieldForms.{a_helper_call}
use Rattle.es_code_generated_members.proofs.underscore.underscore_of_unnamed.Goals as goal

pub returns-in-HelperCall : goal.returns-in-HelperCall
returns-in-HelperCall c = IfOk-weaker c.underscore_of_call.result _ _ (λ e h. h ∙ ap (λ x. underscore_of (context_of c.args.c.now) c.args.access.node x (accessed c.args.access x)) (sym (a_helper_call c.args.object c.in-HelperCall.call c.in-HelperCall.helper c.in-HelperCall.arguments c.in-HelperCall.is))) c.underscore_of_call.ensures
