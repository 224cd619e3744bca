use Rattle.std.proofs.Common.{List, ap, ◌∙◌}
use Rattle.es_codes.specs.CodeView.{codes_of}
use Rattle.es_codes.specs.declared.code.Code.{Code}
use Rattle.es_steps.specs.GeneratedForms.{helper_code}
use Rattle.es_steps.specs.Helpers.{ReadOnlyError}
use Rattle.es_code_helpers.proofs.Arguments.{no_read_only}
use Rattle.es_code_helpers.proofs.private_call.read_only_error.Goals as goal

pub returns-then-len-eq1 : goal.returns-then-len-eq1
returns-then-len-eq1 c = λ k. c.thrown_by.ensures.read k c.args.node ∙ ap (λ (es : List Code). helper_code k c.args.node ReadOnlyError (codes_of es)) c.as_slice.ensures

pub returns-else-len-eq1 : goal.returns-else-len-eq1
returns-else-len-eq1 c = λ k. c.helper_call.ensures ∙ no_read_only k c.args.node c.args.arguments (λ e. c.if-len-eq1.false (c.len.ensures ∙ e))
