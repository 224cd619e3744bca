use Rattle.std.proofs.Common.{ap, ◌∙◌, List}
use Rattle.std.proofs.lemmas.Result.{IfOk-weaker}
use Rattle.es_codes.specs.CodeView.{codes_of}
use Rattle.es_codes.specs.declared.code.Code.{Code}
use Rattle.es_seen_names.specs.PrivateMembers.{private_member_of}
use Rattle.es_steps.specs.GeneratedForms as spec
use Rattle.es_code_generated_calls.proofs.receiver.getter_call.Goals as goal

pub returns : goal.returns
returns c = IfOk-weaker c.getter_on_first.result _ _ (λ e h. h ∙ ap (λ (zs : List Code). spec.getter_call c.args.node (private_member_of c.args.member.now) (codes_of zs)) c.as_mut_slice.ensures.value) c.getter_on_first.ensures
