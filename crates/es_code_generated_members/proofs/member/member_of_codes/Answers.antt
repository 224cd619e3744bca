use Rattle.std.proofs.Common.{◌∙◌, ap}
use Rattle.std.proofs.lemmas.Result.{IfOk-weaker}
use Rattle.es_codes.specs.CodeView.{code_of}
use Rattle.es_codes.specs.declared.code.Code.{Code}
use Rattle.es_steps.specs.Code as of
use Rattle.es_steps.specs.Expressions.{key_code, member_on}
use Rattle.es_code_reading.specs.Contexts.{context_of}
use Rattle.es_code_generated_members.proofs.member.member_of_codes.Goals as goal

pub returns-in_ok-new-in-None : goal.returns-in_ok-new-in-None
returns-in_ok-new-in-None c =
    let context = context_of c.args.c.now in
    let object = code_of c.args.object.now in
    IfOk-weaker c.member_on.result _ _ (λ e h.
    h
    ∙ ap (λ (o : Code). member_on context c.args.node c.args.is_optional (code_of o) (code_of c.in_ok-new-in-None.field-0)) c.replace-in-None.ensures.value
    ∙ ap (λ (k : Code). member_on context c.args.node c.args.is_optional object (code_of k)) c.in_ok-new-in-None.ensures
    ∙ ap (λ (k : of.Code). member_on context c.args.node c.args.is_optional object k) (c.key_code-key.ensures ∙ ap (λ (k : Code). key_code c.args.is_computed (code_of k)) c.replace.ensures.value)
    ∙ c.in-None.ensures (member_on context c.args.node c.args.is_optional object (key_code c.args.is_computed (code_of c.args.key.now)))) c.member_on.ensures
