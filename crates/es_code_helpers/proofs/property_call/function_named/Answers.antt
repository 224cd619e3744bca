use Rattle.std.proofs.Common.{List, ap, ◌∙◌}
use Rattle.std.proofs.lemmas.Result.{IfOk-weaker}
use Rattle.es_codes.specs.CodeView.{codes_of}
use Rattle.es_codes.specs.declared.code.Code.{Code}
use Rattle.es_steps.specs.GeneratedForms.{helper_code}
use Rattle.es_steps.specs.Helpers.{SetFunctionName}
use Rattle.es_code_helpers.proofs.Arguments.{no_name}
use Rattle.es_code_helpers.proofs.property_call.function_named.Goals as goal

pub returns-then-len-eq2 : goal.returns-then-len-eq2
returns-then-len-eq2 c = λ k. IfOk-weaker c.name_function_by.result _ _ (λ e h. h ∙ ap (λ (es : List Code). helper_code k c.args.node SetFunctionName (codes_of es)) c.as_mut_slice.ensures.value) (c.name_function_by.ensures k c.args.node)

pub returns-else-len-eq2 : goal.returns-else-len-eq2
returns-else-len-eq2 c = λ k. c.helper_call.ensures ∙ no_name k c.args.node c.args.arguments (λ e. c.if-len-eq2.false (c.len.ensures ∙ e))
