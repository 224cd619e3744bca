use Rattle.std.proofs.Common.{List, ap, ◌∙◌}
use Rattle.std.proofs.lemmas.Result.{IfOk-weaker}
use Rattle.es_codes.specs.CodeView.{codes_of}
use Rattle.es_codes.specs.declared.code.Code.{Code}
use Rattle.es_steps.specs.GeneratedForms.{helper_code}
use Rattle.es_steps.specs.Helpers.{ToPropertyKey}
use Rattle.es_code_helpers.proofs.Arguments.{no_key}
use Rattle.es_code_helpers.proofs.property_call.key_made.Goals as goal

pub returns-then-len-eq1 : goal.returns-then-len-eq1
returns-then-len-eq1 c = λ k. IfOk-weaker c.make_key_by.result _ _ (λ e h. h ∙ ap (λ (es : List Code). helper_code k c.args.node ToPropertyKey (codes_of es)) c.as_mut_slice.ensures.value) (c.make_key_by.ensures k c.args.node)

pub returns-else-len-eq1 : goal.returns-else-len-eq1
returns-else-len-eq1 c = λ k. c.helper_call.ensures ∙ no_key k c.args.node c.args.arguments (λ e. c.if-len-eq1.false (c.len.ensures ∙ e))
