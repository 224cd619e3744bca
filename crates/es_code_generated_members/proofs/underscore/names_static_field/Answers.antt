use Rattle.std.proofs.Common.{◌∙◌, sym}
use Rattle.es_code_generated_members.proofs.FieldForms.{a_name}
use Rattle.es_code_generated_members.proofs.underscore.names_static_field.Goals as goal

pub returns-in-Name : goal.returns-in-Name
returns-in-Name c = c.is_static_field_kind.ensures ∙ sym (a_name c.args.code.now c.in-Name.node c.in-Name.spelling c.in-Name.kind c.in-Name.is)
