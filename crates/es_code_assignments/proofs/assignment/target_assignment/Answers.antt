use Rattle.std.proofs.Common.{sym, ap, ◌∙◌}
use Rattle.std.proofs.lemmas.Result.{IfOk-weaker}
use Rattle.es_codes.specs.CodeView.{code_of}
use Rattle.es_codes.specs.View.{reference_of}
use Rattle.es_steps.specs.GeneratedForms.{private_assignment}
use Rattle.es_code_reading.specs.Contexts.{context_of}
use Rattle.es_code_assignments.proofs.AssignmentForms.{to_a_name, to_a_private}
use Rattle.es_code_assignments.proofs.assignment.target_assignment.Goals as goal

pub returns-in-ToName : goal.returns-in-ToName
returns-in-ToName c = IfOk-weaker c.name_assignment.result _ _ (λ e h. h ∙ sym (to_a_name (context_of c.args.c.now) c.args.node (code_of c.args.right.now) c.args.to c.in-ToName.name c.in-ToName.spelling c.in-ToName.kind c.in-ToName.is)) c.name_assignment.ensures

pub returns-in-ToPrivate : goal.returns-in-ToPrivate
returns-in-ToPrivate c =
    IfOk-weaker c.private_assignment.result _ _ (λ e h.
    h
    ∙ ap (λ new. private_assignment new c.args.node c.in-ToPrivate.member (reference_of c.in-ToPrivate.means) (code_of c.in-ToPrivate.object) (code_of c.args.right.now)) c.is_new-is_new.ensures
    ∙ sym (to_a_private (context_of c.args.c.now) c.args.node (code_of c.args.right.now) c.args.to c.in-ToPrivate.member c.in-ToPrivate.means c.in-ToPrivate.object c.in-ToPrivate.is)) c.private_assignment.ensures
