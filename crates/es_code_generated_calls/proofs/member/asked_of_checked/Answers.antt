use Rattle.std.proofs.Common.{sym, ◌∙◌}
use Rattle.std.proofs.lemmas.Result.{IfOk-weaker}
use Rattle.es_codes.specs.View.{test_of}
use Rattle.es_code_generated_calls.proofs.MemberForms.{asked_by_call}
use Rattle.es_code_generated_calls.proofs.member.asked_of_checked.Goals as goal

pub returns-in-HelperCall : goal.returns-in-HelperCall
returns-in-HelperCall c = IfOk-weaker c.asked_by.result _ _ (λ e h. h ∙ sym (asked_by_call c.args.node (test_of c.args.test) c.args.checked c.in-HelperCall.node c.in-HelperCall.helper c.in-HelperCall.arguments c.in-HelperCall.is)) c.asked_by.ensures
