use Rattle.std.proofs.Common.{◌∙◌, ap, List}
use Rattle.std.proofs.lemmas.Result.{IfOk-weaker}
use Rattle.es_codes.specs.CodeView.{code_of, codes_of}
use Rattle.es_codes.specs.declared.code.Code.{Code}
use Rattle.es_steps.specs.Code.{helper_call}
use Rattle.es_steps.specs.GeneratedForms.{loose_member}
use Rattle.es_steps.specs.Helpers.{ClassPrivateFieldLooseBase}
use Rattle.es_code_reading.specs.Contexts.{context_of}
use Rattle.es_code_generated_members.specs.Accesses.{accessed}
use Rattle.es_code_generated_members.proofs.loose.member_of_base.Goals as goal

pub returns-then-len-eq2 : goal.returns-then-len-eq2
returns-then-len-eq2 c =
    let context = context_of c.args.c.now in
    let whole = accessed c.args.access (helper_call c.args.call ClassPrivateFieldLooseBase (codes_of c.args.arguments)) in
    IfOk-weaker c.loose_read_by.result _ _ (λ e h.
    h
    ∙ ap (λ (es : List Code). loose_member context c.args.access.node (helper_call c.args.call ClassPrivateFieldLooseBase (codes_of es)) (code_of c.get.result.now) whole) c.as_mut_slice.ensures.value
    ∙ ap (λ (k : Code). loose_member context c.args.access.node (helper_call c.args.call ClassPrivateFieldLooseBase (codes_of c.args.arguments)) (code_of k) whole) c.get.ensures) (c.loose_read_by.ensures c.args.call whole)
