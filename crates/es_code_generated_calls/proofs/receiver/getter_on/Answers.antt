use Rattle.std.proofs.Common.{sym, ◌∙◌}
use Rattle.std.proofs.lemmas.Result.{IfOk-weaker}
use Rattle.es_seen_names.specs.PrivateMembers.{private_member_of}
use Rattle.es_code_generated_calls.proofs.ReceiverForms.{on_branded, on_class}
use Rattle.es_code_generated_calls.proofs.receiver.getter_on.Goals as goal

pub returns-in-HelperCall : goal.returns-in-HelperCall
returns-in-HelperCall c = IfOk-weaker c.branded_getter.result _ _ (λ e h. h ∙ sym (on_branded c.args.node (private_member_of c.args.member.now) c.args.object c.in-HelperCall.node c.in-HelperCall.helper c.in-HelperCall.arguments c.in-HelperCall.is)) c.branded_getter.ensures

pub returns-in_default : goal.returns-in_default
returns-in_default c = IfOk-weaker c.static_getter.result _ _ (λ e h. h ∙ sym (on_class c.args.node (private_member_of c.args.member.now) c.args.object c.in_default.not-HelperCall)) c.static_getter.ensures
