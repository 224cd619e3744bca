use Rattle.std.proofs.Common.{sym, ◌∙◌}
use Rattle.es_codes.specs.CodeView.{code_of}
use Rattle.es_codes.specs.View.{reference_of}
use Rattle.es_code_assignments.proofs.PrivateForms.{a_call}
use Rattle.es_code_assignments.proofs.private.private_form.Goals as goal

pub returns-in-HelperCall : goal.returns-in-HelperCall
returns-in-HelperCall c = c.called_form.ensures ∙ sym (a_call (reference_of c.args.means) (code_of c.args.own.now) c.args.right.now c.in-HelperCall.node c.in-HelperCall.helper c.in-HelperCall.arguments c.in-HelperCall.is)
