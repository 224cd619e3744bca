use Rattle.std.proofs.Common.{ap, ◌∙◌, List}
use Rattle.es_codes.specs.CodeView.{codes_of}
use Rattle.es_codes.specs.declared.code.Code.{Code}
use Rattle.es_steps.specs.GeneratedForms as spec
use Rattle.es_code_generated_calls.proofs.receiver.super_function_call.Goals as goal

pub returns : goal.returns
returns c = c.called_with_first.ensures ∙ ap (λ (zs : List Code). spec.super_function_call c.args.node c.args.class c.args.name (codes_of zs)) c.as_mut_slice.ensures.value
