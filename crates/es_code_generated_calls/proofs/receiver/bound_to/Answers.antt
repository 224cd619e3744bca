use Rattle.std.proofs.Common.{ap, ◌∙◌, List}
use Rattle.std.proofs.lemmas.Result.{IfOk-weaker}
use Rattle.es_codes.specs.CodeView.{code_of, codes_of}
use Rattle.es_codes.specs.declared.code.Code.{Code}
use Rattle.es_steps.specs.GeneratedForms as spec
use Rattle.es_code_generated_calls.proofs.receiver.bound_to.Goals as goal

pub returns : goal.returns
returns c = IfOk-weaker c.bound_to_first.result _ _ (λ e h. h ∙ ap (λ (zs : List Code). spec.bound_to (code_of c.args.function) (codes_of zs)) c.as_mut_slice.ensures.value) c.bound_to_first.ensures
