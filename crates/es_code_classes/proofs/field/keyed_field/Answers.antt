use Rattle.std.proofs.Common.{sym, ◌∙◌}
use Rattle.std.proofs.lemmas.Result.{IfOk-weaker}
use Rattle.es_code_members.specs.MembersView.{member_of}
use Rattle.es_code_reading.specs.Contexts.{context_of}
use Rattle.es_code_classes.proofs.ElementForms.{other_field, private_field}
use Rattle.es_code_classes.proofs.field.keyed_field.Goals as goal

pub returns-in-PrivateName : goal.returns-in-PrivateName
returns-in-PrivateName c = IfOk-weaker c.private_element.result _ _ (λ e h. h ∙ sym (private_field (context_of c.args.c.now) (member_of c.args.value.now) c.args.is_computed c.args.is_static c.args.key c.in-PrivateName.node c.in-PrivateName.spelling c.in-PrivateName.means c.in-PrivateName.is)) c.private_element.ensures

pub returns-in_default : goal.returns-in_default
returns-in_default c = IfOk-weaker c.public_field.result _ _ (λ e h. h ∙ sym (other_field (context_of c.args.c.now) (member_of c.args.value.now) c.args.is_computed c.args.is_static c.args.key c.in_default.not-PrivateName)) c.public_field.ensures
