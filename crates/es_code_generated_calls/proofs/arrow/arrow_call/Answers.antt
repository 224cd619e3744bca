use Rattle.std.proofs.Common.{ap, ◌∙◌, List}
use Rattle.std.proofs.lemmas.Result.{IfOk-weaker}
use Rattle.es_codes.specs.CodeView.{code_of, codes_of, form_of}
use Rattle.es_codes.specs.declared.code.Code.{Code}
use Rattle.es_steps.specs.GeneratedForms as spec
use Rattle.es_code_generated_calls.proofs.arrow.arrow_call.Goals as goal

pub returns : goal.returns
returns c = IfOk-weaker c.call_by_parameters.result _ _ (λ e h. h ∙ ap (λ o. spec.arrow_call (form_of c.args.form) o (code_of c.args.body) (codes_of c.args.arguments)) (c.in_ok-names.ensures ∙ ap (λ (zs : List Code). spec.parameter_names (codes_of zs)) c.as_slice.ensures)) c.call_by_parameters.ensures
