use Rattle.std.specs.Prelude.{refl}
use Rattle.es_rows.proofs.Computed.{lowered}
use Rattle.es_rows.proofs.law.outputs_owe_nothing.Goals as goal

pub returns-clause-argument_behind_a_throw : goal.returns-clause-argument_behind_a_throw
returns-clause-argument_behind_a_throw c = (refl, refl, lowered refl, refl)

pub returns-clause-arrow_that_names_await : goal.returns-clause-arrow_that_names_await
returns-clause-arrow_that_names_await c = (refl, refl, lowered refl, refl)

pub returns-clause-block_of_a_binding : goal.returns-clause-block_of_a_binding
returns-clause-block_of_a_binding c = (refl, refl, lowered refl, refl)

pub returns-clause-block_of_an_arrow : goal.returns-clause-block_of_an_arrow
returns-clause-block_of_an_arrow c = (refl, refl, lowered refl, refl)

pub returns-clause-block_that_names_another_class : goal.returns-clause-block_that_names_another_class
returns-clause-block_that_names_another_class c = (refl, refl, lowered refl, refl)

pub returns-clause-class_in_a_closure : goal.returns-clause-class_in_a_closure
returns-clause-class_in_a_closure c = (refl, refl, lowered refl, refl)

pub returns-clause-class_in_a_super_function : goal.returns-clause-class_in_a_super_function
returns-clause-class_in_a_super_function c = (refl, refl, lowered refl, refl)

pub returns-clause-class_in_the_constructor_of_a_class_in_a_parameter : goal.returns-clause-class_in_the_constructor_of_a_class_in_a_parameter
returns-clause-class_in_the_constructor_of_a_class_in_a_parameter c = (refl, refl, lowered refl, refl)

pub returns-clause-class_in_the_head_of_a_loop : goal.returns-clause-class_in_the_head_of_a_loop
returns-clause-class_in_the_head_of_a_loop c = (refl, refl, lowered refl, refl)

pub returns-clause-class_named_await : goal.returns-clause-class_named_await
returns-clause-class_named_await c = (refl, refl, lowered refl, refl)

pub returns-clause-class_named_by_a_key_of_an_object : goal.returns-clause-class_named_by_a_key_of_an_object
returns-clause-class_named_by_a_key_of_an_object c = (refl, refl, lowered refl, refl)

pub returns-clause-class_named_by_a_number_of_an_object : goal.returns-clause-class_named_by_a_number_of_an_object
returns-clause-class_named_by_a_number_of_an_object c = (refl, refl, lowered refl, refl)

pub returns-clause-class_that_suspends : goal.returns-clause-class_that_suspends
returns-clause-class_that_suspends c = (refl, refl, lowered refl, refl)

pub returns-clause-class_with_the_name_of_a_prototype : goal.returns-clause-class_with_the_name_of_a_prototype
returns-clause-class_with_the_name_of_a_prototype c = (refl, refl, lowered refl, refl)

pub returns-clause-classes_that_suspend : goal.returns-clause-classes_that_suspend
returns-clause-classes_that_suspend c = (refl, refl, lowered refl, refl)

pub returns-clause-compound_write_to_a_private_method : goal.returns-clause-compound_write_to_a_private_method
returns-clause-compound_write_to_a_private_method c = (refl, refl, lowered refl, refl)

pub returns-clause-converted_assignment : goal.returns-clause-converted_assignment
returns-clause-converted_assignment c = (refl, refl, lowered refl, refl)

pub returns-clause-converted_sequence : goal.returns-clause-converted_sequence
returns-clause-converted_sequence c = (refl, refl, lowered refl, refl)

pub returns-clause-directive_with_an_escape : goal.returns-clause-directive_with_an_escape
returns-clause-directive_with_an_escape c = (refl, refl, lowered refl, refl)

pub returns-clause-hexadecimal_bigint : goal.returns-clause-hexadecimal_bigint
returns-clause-hexadecimal_bigint c = (refl, refl, lowered refl, refl)

pub returns-clause-let_in_front_of_a_function : goal.returns-clause-let_in_front_of_a_function
returns-clause-let_in_front_of_a_function c = (refl, refl, lowered refl, refl)

pub returns-clause-logical_write_to_a_private_method : goal.returns-clause-logical_write_to_a_private_method
returns-clause-logical_write_to_a_private_method c = (refl, refl, lowered refl, refl)

pub returns-clause-map_in_front_of_a_key_that_asks : goal.returns-clause-map_in_front_of_a_key_that_asks
returns-clause-map_in_front_of_a_key_that_asks c = (refl, refl, lowered refl, refl)

pub returns-clause-method_around_a_class_without_elements : goal.returns-clause-method_around_a_class_without_elements
returns-clause-method_around_a_class_without_elements c = (refl, refl, lowered refl, refl)

pub returns-clause-name_in_a_field_behind_two_calls_of_super : goal.returns-clause-name_in_a_field_behind_two_calls_of_super
returns-clause-name_in_a_field_behind_two_calls_of_super c = (refl, refl, lowered refl, refl)

pub returns-clause-nameless_class_that_suspends : goal.returns-clause-nameless_class_that_suspends
returns-clause-nameless_class_that_suspends c = (refl, refl, lowered refl, refl)

pub returns-clause-number_as_a_key : goal.returns-clause-number_as_a_key
returns-clause-number_as_a_key c = (refl, refl, lowered refl, refl)

pub returns-clause-own_name_that_nothing_means : goal.returns-clause-own_name_that_nothing_means
returns-clause-own_name_that_nothing_means c = (refl, refl, lowered refl, refl)

pub returns-clause-private_field_of_a_named_class : goal.returns-clause-private_field_of_a_named_class
returns-clause-private_field_of_a_named_class c = (refl, refl, lowered refl, refl)

pub returns-clause-private_method_behind_a_class : goal.returns-clause-private_method_behind_a_class
returns-clause-private_method_behind_a_class c = (refl, refl, lowered refl, refl)

pub returns-clause-private_method_of_a_class_in_a_branch : goal.returns-clause-private_method_of_a_class_in_a_branch
returns-clause-private_method_of_a_class_in_a_branch c = (refl, refl, lowered refl, refl)

pub returns-clause-private_method_that_reads_a_field : goal.returns-clause-private_method_that_reads_a_field
returns-clause-private_method_that_reads_a_field c = (refl, refl, lowered refl, refl)

pub returns-clause-private_method_that_reads_itself : goal.returns-clause-private_method_that_reads_itself
returns-clause-private_method_that_reads_itself c = (refl, refl, lowered refl, refl)

pub returns-clause-regular_expression_as_a_key : goal.returns-clause-regular_expression_as_a_key
returns-clause-regular_expression_as_a_key c = (refl, refl, lowered refl, refl)

pub returns-clause-regular_expression_as_a_static_key : goal.returns-clause-regular_expression_as_a_static_key
returns-clause-regular_expression_as_a_static_key c = (refl, refl, lowered refl, refl)

pub returns-clause-static_field_that_takes_a_block : goal.returns-clause-static_field_that_takes_a_block
returns-clause-static_field_that_takes_a_block c = (refl, refl, lowered refl, refl)

pub returns-clause-static_key_that_is_a_constant : goal.returns-clause-static_key_that_is_a_constant
returns-clause-static_key_that_is_a_constant c = (refl, refl, lowered refl, refl)

pub returns-clause-static_private_method_that_reads_a_field : goal.returns-clause-static_private_method_that_reads_a_field
returns-clause-static_private_method_that_reads_a_field c = (refl, refl, lowered refl, refl)

pub returns-clause-strict_function_of_a_method : goal.returns-clause-strict_function_of_a_method
returns-clause-strict_function_of_a_method c = (refl, refl, lowered refl, refl)

pub returns-clause-string_in_parentheses : goal.returns-clause-string_in_parentheses
returns-clause-string_in_parentheses c = (refl, refl, lowered refl, refl)

pub returns-clause-super_function_in_front_of_a_map : goal.returns-clause-super_function_in_front_of_a_map
returns-clause-super_function_in_front_of_a_map c = (refl, refl, lowered refl, refl)

pub returns-clause-super_in_an_arrow_in_front_of_an_argument : goal.returns-clause-super_in_an_arrow_in_front_of_an_argument
returns-clause-super_in_an_arrow_in_front_of_an_argument c = (refl, refl, lowered refl, refl)

pub returns-clause-template_that_is_copied : goal.returns-clause-template_that_is_copied
returns-clause-template_that_is_copied c = (refl, refl, lowered refl, refl)

pub returns-clause-tested_name_of_a_class : goal.returns-clause-tested_name_of_a_class
returns-clause-tested_name_of_a_class c = (refl, refl, lowered refl, refl)

pub returns-clause-tests_of_two_keys : goal.returns-clause-tests_of_two_keys
returns-clause-tests_of_two_keys c = (refl, refl, lowered refl, refl)
