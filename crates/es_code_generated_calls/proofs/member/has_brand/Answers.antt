use Rattle.std.proofs.Common.{ap, ◌∙◌, List}
use Rattle.std.proofs.lemmas.Result.{IfOk-weaker}
use Rattle.es_codes.specs.CodeView.{codes_of}
use Rattle.es_codes.specs.declared.code.Code.{Code}
use Rattle.es_steps.specs.Values.{HasBrand}
use Rattle.es_code_generated_calls.specs.MemberCalls.{asked}
use Rattle.es_code_generated_calls.proofs.MemberForms.{brand_asked}
use Rattle.es_code_generated_calls.proofs.member.has_brand.Goals as goal

pub returns : goal.returns
returns c = IfOk-weaker c.asked.result _ _ (λ e h. h ∙ ap (λ (zs : List Code). asked c.args.node (HasBrand c.args.class) (codes_of zs)) c.as_mut_slice.ensures.value ∙ brand_asked c.args.node c.args.class (codes_of c.args.arguments)) c.asked.ensures
