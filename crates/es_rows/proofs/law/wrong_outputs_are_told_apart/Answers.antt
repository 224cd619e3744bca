use Rattle.std.specs.Prelude.{refl}
use Rattle.es_rows.proofs.law.wrong_outputs_are_told_apart.Goals as goal

pub returns-clause-another_literal : goal.returns-clause-another_literal
returns-clause-another_literal c = refl

pub returns-clause-another_literal_of_a_written_class : goal.returns-clause-another_literal_of_a_written_class
returns-clause-another_literal_of_a_written_class c = refl

pub returns-clause-arguments_of_another : goal.returns-clause-arguments_of_another
returns-clause-arguments_of_another c = refl

pub returns-clause-arrow_out_of_a_loop : goal.returns-clause-arrow_out_of_a_loop
returns-clause-arrow_out_of_a_loop c = refl

pub returns-clause-arrow_that_gives_another : goal.returns-clause-arrow_that_gives_another
returns-clause-arrow_that_gives_another c = refl

pub returns-clause-arrow_without_its_return : goal.returns-clause-arrow_without_its_return
returns-clause-arrow_without_its_return c = refl

pub returns-clause-assignment_in_a_heritage : goal.returns-clause-assignment_in_a_heritage
returns-clause-assignment_in_a_heritage c = refl

pub returns-clause-assignment_of_a_field_without_a_construction : goal.returns-clause-assignment_of_a_field_without_a_construction
returns-clause-assignment_of_a_field_without_a_construction c = refl

pub returns-clause-assignment_that_becomes_strict : goal.returns-clause-assignment_that_becomes_strict
returns-clause-assignment_that_becomes_strict c = refl

pub returns-clause-assignment_to_a_temporary_that_becomes_strict : goal.returns-clause-assignment_to_a_temporary_that_becomes_strict
returns-clause-assignment_to_a_temporary_that_becomes_strict c = refl

pub returns-clause-assignment_with_the_number_of_another : goal.returns-clause-assignment_with_the_number_of_another
returns-clause-assignment_with_the_number_of_another c = refl

pub returns-clause-assignment_with_the_numbers_of_another : goal.returns-clause-assignment_with_the_numbers_of_another
returns-clause-assignment_with_the_numbers_of_another c = refl

pub returns-clause-assignments_of_a_name_exchanged : goal.returns-clause-assignments_of_a_name_exchanged
returns-clause-assignments_of_a_name_exchanged c = refl

pub returns-clause-async_constructor : goal.returns-clause-async_constructor
returns-clause-async_constructor c = refl

pub returns-clause-await_in_a_static_element : goal.returns-clause-await_in_a_static_element
returns-clause-await_in_a_static_element c = refl

pub returns-clause-binding_in_a_temporary : goal.returns-clause-binding_in_a_temporary
returns-clause-binding_in_a_temporary c = refl

pub returns-clause-binding_not_renamed : goal.returns-clause-binding_not_renamed
returns-clause-binding_not_renamed c = refl

pub returns-clause-block_behind_fields : goal.returns-clause-block_behind_fields
returns-clause-block_behind_fields c = refl

pub returns-clause-block_in_front_of_a_class_with_a_heritage : goal.returns-clause-block_in_front_of_a_class_with_a_heritage
returns-clause-block_in_front_of_a_class_with_a_heritage c = refl

pub returns-clause-body_dropped : goal.returns-clause-body_dropped
returns-clause-body_dropped c = refl

pub returns-clause-bound_before_its_test : goal.returns-clause-bound_before_its_test
returns-clause-bound_before_its_test c = refl

pub returns-clause-call_in_front_of_a_class : goal.returns-clause-call_in_front_of_a_class
returns-clause-call_in_front_of_a_class c = refl

pub returns-clause-call_in_front_of_a_class_with_a_block : goal.returns-clause-call_in_front_of_a_class_with_a_block
returns-clause-call_in_front_of_a_class_with_a_block c = refl

pub returns-clause-call_in_front_of_a_class_with_a_heritage : goal.returns-clause-call_in_front_of_a_class_with_a_heritage
returns-clause-call_in_front_of_a_class_with_a_heritage c = refl

pub returns-clause-call_on_a_literal_in_front_of_a_class : goal.returns-clause-call_on_a_literal_in_front_of_a_class
returns-clause-call_on_a_literal_in_front_of_a_class c = refl

pub returns-clause-class_in_front_of_its_use : goal.returns-clause-class_in_front_of_its_use
returns-clause-class_in_front_of_its_use c = refl

pub returns-clause-class_of_a_head : goal.returns-clause-class_of_a_head
returns-clause-class_of_a_head c = refl

pub returns-clause-class_of_a_right_side : goal.returns-clause-class_of_a_right_side
returns-clause-class_of_a_right_side c = refl

pub returns-clause-class_renamed : goal.returns-clause-class_renamed
returns-clause-class_renamed c = refl

pub returns-clause-constructor_of_another_key : goal.returns-clause-constructor_of_another_key
returns-clause-constructor_of_another_key c = refl

pub returns-clause-conversion_of_an_assignment_of_another_name : goal.returns-clause-conversion_of_an_assignment_of_another_name
returns-clause-conversion_of_an_assignment_of_another_name c = refl

pub returns-clause-conversion_of_another_assignment : goal.returns-clause-conversion_of_another_assignment
returns-clause-conversion_of_another_assignment c = refl

pub returns-clause-declarator_out_of_its_block : goal.returns-clause-declarator_out_of_its_block
returns-clause-declarator_out_of_its_block c = refl

pub returns-clause-default_class_behind_a_key : goal.returns-clause-default_class_behind_a_key
returns-clause-default_class_behind_a_key c = refl

pub returns-clause-definitions_nested : goal.returns-clause-definitions_nested
returns-clause-definitions_nested c = refl

pub returns-clause-deleted_key : goal.returns-clause-deleted_key
returns-clause-deleted_key c = refl

pub returns-clause-elements_of_a_written_class_dropped : goal.returns-clause-elements_of_a_written_class_dropped
returns-clause-elements_of_a_written_class_dropped c = refl

pub returns-clause-field_before_super : goal.returns-clause-field_before_super
returns-clause-field_before_super c = refl

pub returns-clause-field_doubled : goal.returns-clause-field_doubled
returns-clause-field_doubled c = refl

pub returns-clause-field_dropped : goal.returns-clause-field_dropped
returns-clause-field_dropped c = refl

pub returns-clause-field_key_read_late : goal.returns-clause-field_key_read_late
returns-clause-field_key_read_late c = refl

pub returns-clause-field_of_a_written_class_doubled : goal.returns-clause-field_of_a_written_class_doubled
returns-clause-field_of_a_written_class_doubled c = refl

pub returns-clause-field_of_a_written_class_dropped : goal.returns-clause-field_of_a_written_class_dropped
returns-clause-field_of_a_written_class_dropped c = refl

pub returns-clause-fields_exchanged : goal.returns-clause-fields_exchanged
returns-clause-fields_exchanged c = refl

pub returns-clause-fields_of_a_written_class_exchanged : goal.returns-clause-fields_of_a_written_class_exchanged
returns-clause-fields_of_a_written_class_exchanged c = refl

pub returns-clause-for_await_in_an_arrow : goal.returns-clause-for_await_in_an_arrow
returns-clause-for_await_in_an_arrow c = refl

pub returns-clause-function_named_by_an_element_behind_it : goal.returns-clause-function_named_by_an_element_behind_it
returns-clause-function_named_by_an_element_behind_it c = refl

pub returns-clause-generator_constructor : goal.returns-clause-generator_constructor
returns-clause-generator_constructor c = refl

pub returns-clause-getter_made_a_method : goal.returns-clause-getter_made_a_method
returns-clause-getter_made_a_method c = refl

pub returns-clause-heritage_read_late : goal.returns-clause-heritage_read_late
returns-clause-heritage_read_late c = refl

pub returns-clause-key_given_behind_the_fields : goal.returns-clause-key_given_behind_the_fields
returns-clause-key_given_behind_the_fields c = refl

pub returns-clause-key_given_in_its_value : goal.returns-clause-key_given_in_its_value
returns-clause-key_given_in_its_value c = refl

pub returns-clause-key_in_front_of_a_throw : goal.returns-clause-key_in_front_of_a_throw
returns-clause-key_in_front_of_a_throw c = refl

pub returns-clause-key_of_a_binding_in_a_temporary : goal.returns-clause-key_of_a_binding_in_a_temporary
returns-clause-key_of_a_binding_in_a_temporary c = refl

pub returns-clause-key_read_late : goal.returns-clause-key_read_late
returns-clause-key_read_late c = refl

pub returns-clause-key_read_twice : goal.returns-clause-key_read_twice
returns-clause-key_read_twice c = refl

pub returns-clause-let_behind_a_closure : goal.returns-clause-let_behind_a_closure
returns-clause-let_behind_a_closure c = refl

pub returns-clause-let_behind_a_key : goal.returns-clause-let_behind_a_key
returns-clause-let_behind_a_key c = refl

pub returns-clause-let_without_a_value_behind_a_call : goal.returns-clause-let_without_a_value_behind_a_call
returns-clause-let_without_a_value_behind_a_call c = refl

pub returns-clause-maps_in_loose_mode : goal.returns-clause-maps_in_loose_mode
returns-clause-maps_in_loose_mode c = refl

pub returns-clause-member_of_an_object : goal.returns-clause-member_of_an_object
returns-clause-member_of_an_object c = refl

pub returns-clause-method_without_brand : goal.returns-clause-method_without_brand
returns-clause-method_without_brand c = refl

pub returns-clause-named_value : goal.returns-clause-named_value
returns-clause-named_value c = refl

pub returns-clause-names_of_a_constructor : goal.returns-clause-names_of_a_constructor
returns-clause-names_of_a_constructor c = refl

pub returns-clause-new_import : goal.returns-clause-new_import
returns-clause-new_import c = refl

pub returns-clause-new_target_of_a_program : goal.returns-clause-new_target_of_a_program
returns-clause-new_target_of_a_program c = refl

pub returns-clause-object_evaluated_twice : goal.returns-clause-object_evaluated_twice
returns-clause-object_evaluated_twice c = refl

pub returns-clause-odd_constructor : goal.returns-clause-odd_constructor
returns-clause-odd_constructor c = refl

pub returns-clause-parameter_in_front : goal.returns-clause-parameter_in_front
returns-clause-parameter_in_front c = refl

pub returns-clause-parameter_of_a_new_constructor : goal.returns-clause-parameter_of_a_new_constructor
returns-clause-parameter_of_a_new_constructor c = refl

pub returns-clause-parent_constructed_twice : goal.returns-clause-parent_constructed_twice
returns-clause-parent_constructed_twice c = refl

pub returns-clause-parent_never_constructed : goal.returns-clause-parent_never_constructed
returns-clause-parent_never_constructed c = refl

pub returns-clause-picked_by_an_async_arrow : goal.returns-clause-picked_by_an_async_arrow
returns-clause-picked_by_an_async_arrow c = refl

pub returns-clause-private_element_in_front_of_its_value : goal.returns-clause-private_element_in_front_of_its_value
returns-clause-private_element_in_front_of_its_value c = refl

pub returns-clause-private_element_read_by_a_constructor : goal.returns-clause-private_element_read_by_a_constructor
returns-clause-private_element_read_by_a_constructor c = refl

pub returns-clause-private_element_read_by_a_field : goal.returns-clause-private_element_read_by_a_field
returns-clause-private_element_read_by_a_field c = refl

pub returns-clause-private_field_dropped : goal.returns-clause-private_field_dropped
returns-clause-private_field_dropped c = refl

pub returns-clause-private_method_dropped : goal.returns-clause-private_method_dropped
returns-clause-private_method_dropped c = refl

pub returns-clause-private_name_of_another_class : goal.returns-clause-private_name_of_another_class
returns-clause-private_name_of_another_class c = refl

pub returns-clause-private_name_of_the_outer_class : goal.returns-clause-private_name_of_the_outer_class
returns-clause-private_name_of_the_outer_class c = refl

pub returns-clause-question_for_a_generated_element : goal.returns-clause-question_for_a_generated_element
returns-clause-question_for_a_generated_element c = refl

pub returns-clause-receiver_of_a_conditional : goal.returns-clause-receiver_of_a_conditional
returns-clause-receiver_of_a_conditional c = refl

pub returns-clause-receiver_of_a_private_call : goal.returns-clause-receiver_of_a_private_call
returns-clause-receiver_of_a_private_call c = refl

pub returns-clause-receiver_of_a_super_call : goal.returns-clause-receiver_of_a_super_call
returns-clause-receiver_of_a_super_call c = refl

pub returns-clause-regular_expression_in_a_temporary : goal.returns-clause-regular_expression_in_a_temporary
returns-clause-regular_expression_in_a_temporary c = refl

pub returns-clause-regular_expression_of_each_instance : goal.returns-clause-regular_expression_of_each_instance
returns-clause-regular_expression_of_each_instance c = refl

pub returns-clause-result_of_the_setter : goal.returns-clause-result_of_the_setter
returns-clause-result_of_the_setter c = refl

pub returns-clause-return_in_an_arrow : goal.returns-clause-return_in_an_arrow
returns-clause-return_in_an_arrow c = refl

pub returns-clause-script_in_an_arrow : goal.returns-clause-script_in_an_arrow
returns-clause-script_in_an_arrow c = refl

pub returns-clause-second_private_element_read_by_a_field : goal.returns-clause-second_private_element_read_by_a_field
returns-clause-second_private_element_read_by_a_field c = refl

pub returns-clause-spread_for_a_parameter : goal.returns-clause-spread_for_a_parameter
returns-clause-spread_for_a_parameter c = refl

pub returns-clause-statements_behind_a_throw_exchanged : goal.returns-clause-statements_behind_a_throw_exchanged
returns-clause-statements_behind_a_throw_exchanged c = refl

pub returns-clause-static_constructor : goal.returns-clause-static_constructor
returns-clause-static_constructor c = refl

pub returns-clause-static_field_before_its_class : goal.returns-clause-static_field_before_its_class
returns-clause-static_field_before_its_class c = refl

pub returns-clause-static_key_read_late : goal.returns-clause-static_key_read_late
returns-clause-static_key_read_late c = refl

pub returns-clause-static_value_in_front_of_a_class : goal.returns-clause-static_value_in_front_of_a_class
returns-clause-static_value_in_front_of_a_class c = refl

pub returns-clause-super_assignment_in_a_heritage : goal.returns-clause-super_assignment_in_a_heritage
returns-clause-super_assignment_in_a_heritage c = refl

pub returns-clause-super_function_called_with_another : goal.returns-clause-super_function_called_with_another
returns-clause-super_function_called_with_another c = refl

pub returns-clause-super_gives_zero : goal.returns-clause-super_gives_zero
returns-clause-super_gives_zero c = refl

pub returns-clause-suspending_constructor : goal.returns-clause-suspending_constructor
returns-clause-suspending_constructor c = refl

pub returns-clause-temporary_given_behind_a_call : goal.returns-clause-temporary_given_behind_a_call
returns-clause-temporary_given_behind_a_call c = refl

pub returns-clause-temporary_given_late : goal.returns-clause-temporary_given_late
returns-clause-temporary_given_late c = refl

pub returns-clause-temporary_never_given : goal.returns-clause-temporary_never_given
returns-clause-temporary_never_given c = refl

pub returns-clause-temporary_of_the_round_before : goal.returns-clause-temporary_of_the_round_before
returns-clause-temporary_of_the_round_before c = refl

pub returns-clause-test_of_another_object : goal.returns-clause-test_of_another_object
returns-clause-test_of_another_object c = refl

pub returns-clause-test_of_one_null : goal.returns-clause-test_of_one_null
returns-clause-test_of_one_null c = refl

pub returns-clause-two_constructors : goal.returns-clause-two_constructors
returns-clause-two_constructors c = refl

pub returns-clause-value_as_a_key : goal.returns-clause-value_as_a_key
returns-clause-value_as_a_key c = refl
