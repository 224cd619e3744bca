use Rattle.std.proofs.Common.{sym, ◌∙◌}
use Rattle.es_code_assignments.proofs.BinaryForms.{a_call, a_name}
use Rattle.es_code_assignments.proofs.binary.left_form_of.Goals as goal

pub returns-in-HelperCall : goal.returns-in-HelperCall
returns-in-HelperCall c = c.called_form.ensures ∙ sym (a_call c.args.code.now c.in-HelperCall.node c.in-HelperCall.helper c.in-HelperCall.arguments c.in-HelperCall.is)

pub returns-in-Name : goal.returns-in-Name
returns-in-Name c = c.named_form.ensures ∙ sym (a_name c.args.code.now c.in-Name.node c.in-Name.spelling c.in-Name.kind c.in-Name.is)
