use Rattle.std.proofs.Common.{◌∙◌, ap, List}
use Rattle.std.proofs.lemmas.Result.{IfOk-weaker}
use Rattle.es_codes.specs.CodeView.{codes_of}
use Rattle.es_codes.specs.declared.code.Code.{Code}
use Rattle.es_steps.specs.Code.{helper_call}
use Rattle.es_steps.specs.GeneratedForms.{underscore_of}
use Rattle.es_steps.specs.Helpers.{AssertClassBrand}
use Rattle.es_code_reading.specs.Contexts.{context_of}
use Rattle.es_code_generated_members.specs.Accesses.{accessed}
use Rattle.es_code_generated_members.proofs.underscore.underscore_of_brand.Goals as goal

pub returns-then-len-eq3 : goal.returns-then-len-eq3
returns-then-len-eq3 c =
    let context = context_of c.args.c.now in
    let whole = accessed c.args.access (helper_call c.args.call AssertClassBrand (codes_of c.args.arguments)) in
    IfOk-weaker c.field_behind_brand_by.result _ _ (λ e h. h ∙ ap (λ (es : List Code). underscore_of context c.args.access.node (helper_call c.args.call AssertClassBrand (codes_of es)) whole) c.as_mut_slice.ensures.value) (c.field_behind_brand_by.ensures c.args.call whole)
