use Rattle.std.proofs.Common.{◌∙◌, sym}
use Rattle.std.proofs.lemmas.Result.{IfOk-weaker}
use Rattle.es_codes.specs.CodeView.{code_of}
use Rattle.es_code_reading.specs.Contexts.{context_of}
use Rattle.es_code_generated_members.proofs.LooseForms.{of_helper_call}
use Rattle.es_code_generated_members.proofs.loose.loose_member.Goals as goal

pub returns-in-HelperCall : goal.returns-in-HelperCall
returns-in-HelperCall c = IfOk-weaker c.member_of_call.result _ _ (λ e h. h ∙ sym (of_helper_call (context_of c.args.c.now) c.args.access.node c.args.object (code_of c.args.access.key) c.args.access c.in-HelperCall.call c.in-HelperCall.helper c.in-HelperCall.arguments c.in-HelperCall.is)) c.member_of_call.ensures
