use Rattle.std.specs.Prelude.{refl}
use Rattle.es_rows.proofs.Computed.{lowered}
use Rattle.es_rows.proofs.law.private_members_keep_their_meaning.Goals as goal

pub returns-clause-private_compound_write : goal.returns-clause-private_compound_write
returns-clause-private_compound_write c = (refl, refl, lowered refl, refl)

pub returns-clause-private_accessors : goal.returns-clause-private_accessors
returns-clause-private_accessors c = (refl, refl, lowered refl, refl)

pub returns-clause-private_update_in_module : goal.returns-clause-private_update_in_module
returns-clause-private_update_in_module c = (refl, refl, lowered refl, refl)

pub returns-clause-private_in_method : goal.returns-clause-private_in_method
returns-clause-private_in_method c = (refl, refl, lowered refl, refl)

pub returns-clause-private_field_forms : goal.returns-clause-private_field_forms
returns-clause-private_field_forms c = (refl, refl, lowered refl, refl)

pub returns-clause-private_static_field : goal.returns-clause-private_static_field
returns-clause-private_static_field c = (refl, refl, lowered refl, refl)

pub returns-clause-private_method_with_super : goal.returns-clause-private_method_with_super
returns-clause-private_method_with_super c = (refl, refl, lowered refl, refl)

pub returns-clause-private_method_written : goal.returns-clause-private_method_written
returns-clause-private_method_written c = (refl, refl, lowered refl, refl)

pub returns-clause-private_method_of_expression : goal.returns-clause-private_method_of_expression
returns-clause-private_method_of_expression c = (refl, refl, lowered refl, refl)

pub returns-clause-private_method_of_default_export : goal.returns-clause-private_method_of_default_export
returns-clause-private_method_of_default_export c = (refl, refl, lowered refl, refl)

pub returns-clause-nested_private_names : goal.returns-clause-nested_private_names
returns-clause-nested_private_names c = (refl, refl, lowered refl, refl)

pub returns-clause-private_static_write : goal.returns-clause-private_static_write
returns-clause-private_static_write c = (refl, refl, lowered refl, refl)

pub returns-clause-private_static_compound_write : goal.returns-clause-private_static_compound_write
returns-clause-private_static_compound_write c = (refl, refl, lowered refl, refl)

pub returns-clause-private_static_method_on_class : goal.returns-clause-private_static_method_on_class
returns-clause-private_static_method_on_class c = (refl, refl, lowered refl, refl)

pub returns-clause-private_static_accessors_on_class : goal.returns-clause-private_static_accessors_on_class
returns-clause-private_static_accessors_on_class c = (refl, refl, lowered refl, refl)

pub returns-clause-private_in_field : goal.returns-clause-private_in_field
returns-clause-private_in_field c = (refl, refl, lowered refl, refl)

pub returns-clause-private_in_static : goal.returns-clause-private_in_static
returns-clause-private_in_static c = (refl, refl, lowered refl, refl)

pub returns-clause-private_tag : goal.returns-clause-private_tag
returns-clause-private_tag c = (refl, refl, lowered refl, refl)

pub returns-clause-private_prefix_update : goal.returns-clause-private_prefix_update
returns-clause-private_prefix_update c = (refl, refl, lowered refl, refl)

pub returns-clause-private_setter_read : goal.returns-clause-private_setter_read
returns-clause-private_setter_read c = (refl, refl, lowered refl, refl)

pub returns-clause-private_setter_targets : goal.returns-clause-private_setter_targets
returns-clause-private_setter_targets c = (refl, refl, lowered refl, refl)

pub returns-clause-private_static_of_expression : goal.returns-clause-private_static_of_expression
returns-clause-private_static_of_expression c = (refl, refl, lowered refl, refl)

pub returns-clause-private_method_behind_statement : goal.returns-clause-private_method_behind_statement
returns-clause-private_method_behind_statement c = (refl, refl, lowered refl, refl)

pub returns-clause-private_update_in_an_arrow : goal.returns-clause-private_update_in_an_arrow
returns-clause-private_update_in_an_arrow c = (refl, refl, lowered refl, refl)

pub returns-clause-private_write_in_a_field : goal.returns-clause-private_write_in_a_field
returns-clause-private_write_in_a_field c = (refl, refl, lowered refl, refl)
