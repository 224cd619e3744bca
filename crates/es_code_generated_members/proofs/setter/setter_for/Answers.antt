use Rattle.std.proofs.Common.{◌∙◌, sym, ap, List}
use Rattle.std.proofs.lemmas.Result.{IfOk-weaker}
use Rattle.es_codes.specs.CodeView.{codes_of, helper_of}
use Rattle.es_codes.specs.declared.code.Code.{Code}
use Rattle.es_seen_names.specs.PrivateMembers.{private_member_of}
use Rattle.es_code_generated_members.specs.Setters.{setter_behind}
use Rattle.es_code_generated_members.proofs.SetterForms.{on_helper_call}
use Rattle.es_code_generated_members.proofs.setter.setter_for.Goals as goal

pub returns-in-HelperCall : goal.returns-in-HelperCall
returns-in-HelperCall c =
    let member = private_member_of c.args.member.now in
    IfOk-weaker c.setter_behind.result _ _ (λ e h.
    h
    ∙ ap (λ (es : List Code). setter_behind c.args.node member (helper_of c.in-HelperCall.helper) (codes_of es)) c.as_mut_slice.ensures.value
    ∙ sym (on_helper_call c.args.node member c.args.object c.in-HelperCall.node c.in-HelperCall.helper c.in-HelperCall.arguments c.in-HelperCall.is)) c.setter_behind.ensures
