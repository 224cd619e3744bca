use Rattle.es_code_members.specs.MembersView.{member_of}
use Rattle.es_code_classes.proofs.field.form_of_field.Goals as goal

pub returns : goal.returns
returns c = c.field_form.ensures (member_of c.args.value.now) c.is_absent.ensures
