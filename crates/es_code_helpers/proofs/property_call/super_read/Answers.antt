use Rattle.std.proofs.Common.{List, ap, ◌∙◌}
use Rattle.std.proofs.lemmas.Result.{IfOk-weaker}
use Rattle.es_codes.specs.CodeView.{codes_of}
use Rattle.es_codes.specs.declared.code.Code.{Code}
use Rattle.es_steps.specs.GeneratedForms.{helper_code}
use Rattle.es_steps.specs.Helpers.{SuperPropGet}
use Rattle.es_code_helpers.proofs.Arguments.{no_super_get}
use Rattle.es_code_helpers.proofs.property_call.super_read.Goals as goal

pub returns-then-len-eq3 : goal.returns-then-len-eq3
returns-then-len-eq3 c = λ k. IfOk-weaker c.read_super_by.result _ _ (λ e h. h ∙ ap (λ (es : List Code). helper_code k c.args.node SuperPropGet (codes_of es)) c.as_mut_slice.ensures.value) (c.read_super_by.ensures k)

pub returns-else-len-eq3 : goal.returns-else-len-eq3
returns-else-len-eq3 c = λ k. c.helper_call.ensures ∙ no_super_get k c.args.node c.args.arguments (λ e. c.if-len-eq3.false (c.len.ensures ∙ e))
