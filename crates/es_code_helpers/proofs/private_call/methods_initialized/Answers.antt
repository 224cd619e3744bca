use Rattle.std.proofs.Common.{List, ap, ◌∙◌}
use Rattle.es_codes.specs.CodeView.{codes_of}
use Rattle.es_codes.specs.declared.code.Code.{Code}
use Rattle.es_steps.specs.GeneratedForms.{helper_code}
use Rattle.es_steps.specs.Helpers.{ClassPrivateMethodInitSpec}
use Rattle.es_code_helpers.proofs.Arguments.{no_brand}
use Rattle.es_code_helpers.proofs.private_call.methods_initialized.Goals as goal

pub returns-then-len-eq2 : goal.returns-then-len-eq2
returns-then-len-eq2 c = λ k. c.add_brand.ensures k ∙ ap (λ (es : List Code). helper_code k c.args.node ClassPrivateMethodInitSpec (codes_of es)) c.as_slice.ensures

pub returns-else-len-eq2 : goal.returns-else-len-eq2
returns-else-len-eq2 c = λ k. c.helper_call.ensures ∙ no_brand k c.args.node c.args.arguments (λ e. c.if-len-eq2.false (c.len.ensures ∙ e))
