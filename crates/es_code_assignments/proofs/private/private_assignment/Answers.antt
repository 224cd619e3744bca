use Rattle.std.proofs.Common.{◌≡◌, ap, ◌∙◌}
use Rattle.std.proofs.lemmas.Result.{IfOk-weaker}
use Rattle.es_codes.specs.CodeView.{code_of}
use Rattle.es_codes.specs.View.{reference_of}
use Rattle.es_code_assignments.specs.Privates.{private_form}
use Rattle.es_code_assignments.specs.declared.private.PrivateForm.{PrivateForm}
use Rattle.es_code_assignments.proofs.PrivateForms.{by_branded, by_no_rule, by_plain}
use Rattle.es_code_assignments.proofs.private.private_assignment.Goals as goal

pub returns-in-Branded : goal.returns-in-Branded
returns-in-Branded c =
    let is : PrivateForm.Branded ≡ private_form (reference_of c.args.means) (code_of c.args.object) (code_of c.args.right.now) = c.in-Branded.ensures ∙ ap (λ o. private_form (reference_of c.args.means) (code_of o) (code_of c.args.right.now)) c.get.ensures in
    IfOk-weaker c.written_branded.result _ _ (λ e h. h ∙ by_branded c.args.is_new c.args.node c.args.member (reference_of c.args.means) (code_of c.args.object) (code_of c.args.right.now) is) c.written_branded.ensures

pub returns-in-NoRule : goal.returns-in-NoRule
returns-in-NoRule c =
    let is : PrivateForm.NoRule ≡ private_form (reference_of c.args.means) (code_of c.args.object) (code_of c.args.right.now) = c.in-NoRule.ensures ∙ ap (λ o. private_form (reference_of c.args.means) (code_of o) (code_of c.args.right.now)) c.get.ensures in
    c.no_rule.ensures ∙ by_no_rule c.args.is_new c.args.node c.args.member (reference_of c.args.means) (code_of c.args.object) (code_of c.args.right.now) is

pub returns-in-Plain : goal.returns-in-Plain
returns-in-Plain c =
    let is : PrivateForm.Plain ≡ private_form (reference_of c.args.means) (code_of c.args.object) (code_of c.args.right.now) = c.in-Plain.ensures ∙ ap (λ o. private_form (reference_of c.args.means) (code_of o) (code_of c.args.right.now)) c.get.ensures in
    IfOk-weaker c.written.result _ _ (λ e h. h ∙ by_plain c.args.is_new c.args.node c.args.member (reference_of c.args.means) (code_of c.args.object) (code_of c.args.right.now) is) c.written.ensures
