use Rattle.std.proofs.Common.{ap, ◌∙◌, List}
use Rattle.std.proofs.lemmas.Result.{IfOk-weaker}
use Rattle.es_codes.specs.CodeView.{codes_of}
use Rattle.es_codes.specs.declared.code.Code.{Code}
use Rattle.es_code_reading.specs.Contexts.{context_of}
use Rattle.es_code_generated_calls.specs.Arrows.{picked_from}
use Rattle.es_code_generated_calls.proofs.arrow.picked_from.Goals as goal

pub returns : goal.returns
returns c = IfOk-weaker c.picked_of_two.result _ _ (λ e h. h ∙ ap (λ (zs : List Code). picked_from (context_of c.args.c.now) (codes_of zs)) c.as_mut_slice.ensures.value) c.picked_of_two.ensures
