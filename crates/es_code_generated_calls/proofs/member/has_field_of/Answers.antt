use Rattle.std.proofs.Common.{ap, ◌∙◌, List}
use Rattle.std.proofs.lemmas.Result.{IfOk-weaker}
use Rattle.es_codes.specs.CodeView.{code_of, codes_of}
use Rattle.es_codes.specs.declared.code.Code.{Code}
use Rattle.es_code_reading.specs.Contexts.{context_of}
use Rattle.es_steps.specs.GeneratedForms as spec
use Rattle.es_code_generated_calls.proofs.member.has_field_of.Goals as goal

pub returns : goal.returns
returns c =
    let known = c.weak_map-member.ensures ∙ ap (λ f. spec.weak_map (context_of c.args.c.now) (code_of f)) c.get.ensures in
    IfOk-weaker c.has_field.result _ _ (λ e h.
    h
    ∙ ap (λ o. spec.has_field c.args.node o (codes_of c.as_mut_slice.result.now)) known
    ∙ ap (λ (zs : List Code). spec.has_field c.args.node (spec.weak_map (context_of c.args.c.now) (code_of c.args.map)) (codes_of zs)) c.as_mut_slice.ensures.value) c.has_field.ensures
