use Rattle.std.specs.Prelude.{refl}
use Rattle.es_rows.proofs.law.clauses_are_not_met.Goals as goal

pub returns-clause-accessor_given_behind_a_key : goal.returns-clause-accessor_given_behind_a_key
returns-clause-accessor_given_behind_a_key c = refl

pub returns-clause-another_literal_of_a_written_class : goal.returns-clause-another_literal_of_a_written_class
returns-clause-another_literal_of_a_written_class c = refl

pub returns-clause-argument_in_front_of_its_class : goal.returns-clause-argument_in_front_of_its_class
returns-clause-argument_in_front_of_its_class c = refl

pub returns-clause-arguments_in_a_field : goal.returns-clause-arguments_in_a_field
returns-clause-arguments_in_a_field c = refl

pub returns-clause-arguments_in_a_static_block : goal.returns-clause-arguments_in_a_static_block
returns-clause-arguments_in_a_static_block c = refl

pub returns-clause-arguments_of_a_static_field : goal.returns-clause-arguments_of_a_static_field
returns-clause-arguments_of_a_static_field c = refl

pub returns-clause-arrow_in_the_head_of_a_loop : goal.returns-clause-arrow_in_the_head_of_a_loop
returns-clause-arrow_in_the_head_of_a_loop c = refl

pub returns-clause-arrow_out_of_a_block : goal.returns-clause-arrow_out_of_a_block
returns-clause-arrow_out_of_a_block c = refl

pub returns-clause-arrow_that_an_assignment_hands_on : goal.returns-clause-arrow_that_an_assignment_hands_on
returns-clause-arrow_that_an_assignment_hands_on c = refl

pub returns-clause-arrow_with_the_name_of_a_key : goal.returns-clause-arrow_with_the_name_of_a_key
returns-clause-arrow_with_the_name_of_a_key c = refl

pub returns-clause-arrow_with_the_name_of_an_argument : goal.returns-clause-arrow_with_the_name_of_an_argument
returns-clause-arrow_with_the_name_of_an_argument c = refl

pub returns-clause-await_in_a_function_that_nothing_calls : goal.returns-clause-await_in_a_function_that_nothing_calls
returns-clause-await_in_a_function_that_nothing_calls c = refl

pub returns-clause-await_in_a_static_block : goal.returns-clause-await_in_a_static_block
returns-clause-await_in_a_static_block c = refl

pub returns-clause-await_in_an_async_function : goal.returns-clause-await_in_an_async_function
returns-clause-await_in_an_async_function c = refl

pub returns-clause-await_in_parameters : goal.returns-clause-await_in_parameters
returns-clause-await_in_parameters c = refl

pub returns-clause-awaiting_loop_behind_an_error : goal.returns-clause-awaiting_loop_behind_an_error
returns-clause-awaiting_loop_behind_an_error c = refl

pub returns-clause-awaiting_loop_out_of_its_function : goal.returns-clause-awaiting_loop_out_of_its_function
returns-clause-awaiting_loop_out_of_its_function c = refl

pub returns-clause-block_in_front_of_its_class : goal.returns-clause-block_in_front_of_its_class
returns-clause-block_in_front_of_its_class c = refl

pub returns-clause-block_without_a_function : goal.returns-clause-block_without_a_function
returns-clause-block_without_a_function c = refl

pub returns-clause-body_dropped : goal.returns-clause-body_dropped
returns-clause-body_dropped c = refl

pub returns-clause-body_in_a_block : goal.returns-clause-body_in_a_block
returns-clause-body_in_a_block c = refl

pub returns-clause-body_in_an_arrow : goal.returns-clause-body_in_an_arrow
returns-clause-body_in_an_arrow c = refl

pub returns-clause-brand_outside_of_a_called_function : goal.returns-clause-brand_outside_of_a_called_function
returns-clause-brand_outside_of_a_called_function c = refl

pub returns-clause-break_in_an_arrow : goal.returns-clause-break_in_an_arrow
returns-clause-break_in_an_arrow c = refl

pub returns-clause-break_in_an_arrow_beside_await : goal.returns-clause-break_in_an_arrow_beside_await
returns-clause-break_in_an_arrow_beside_await c = refl

pub returns-clause-call_in_a_super_function_that_nothing_calls : goal.returns-clause-call_in_a_super_function_that_nothing_calls
returns-clause-call_in_a_super_function_that_nothing_calls c = refl

pub returns-clause-call_in_the_let_of_a_class : goal.returns-clause-call_in_the_let_of_a_class
returns-clause-call_in_the_let_of_a_class c = refl

pub returns-clause-call_of_a_private_element : goal.returns-clause-call_of_a_private_element
returns-clause-call_of_a_private_element c = refl

pub returns-clause-call_of_eval_by_its_name : goal.returns-clause-call_of_eval_by_its_name
returns-clause-call_of_eval_by_its_name c = refl

pub returns-clause-character_of_no_name : goal.returns-clause-character_of_no_name
returns-clause-character_of_no_name c = refl

pub returns-clause-class_asked_for_in_its_key : goal.returns-clause-class_asked_for_in_its_key
returns-clause-class_asked_for_in_its_key c = refl

pub returns-clause-class_behind_its_use : goal.returns-clause-class_behind_its_use
returns-clause-class_behind_its_use c = refl

pub returns-clause-class_in_a_constructor : goal.returns-clause-class_in_a_constructor
returns-clause-class_in_a_constructor c = refl

pub returns-clause-class_in_front_of_a_let : goal.returns-clause-class_in_front_of_a_let
returns-clause-class_in_front_of_a_let c = refl

pub returns-clause-class_in_front_of_a_return : goal.returns-clause-class_in_front_of_a_return
returns-clause-class_in_front_of_a_return c = refl

pub returns-clause-class_in_front_of_an_await : goal.returns-clause-class_in_front_of_an_await
returns-clause-class_in_front_of_an_await c = refl

pub returns-clause-class_in_front_of_what_its_heritage_reads : goal.returns-clause-class_in_front_of_what_its_heritage_reads
returns-clause-class_in_front_of_what_its_heritage_reads c = refl

pub returns-clause-class_in_front_of_what_its_key_reads : goal.returns-clause-class_in_front_of_what_its_key_reads
returns-clause-class_in_front_of_what_its_key_reads c = refl

pub returns-clause-class_name_in_front_of_an_await : goal.returns-clause-class_name_in_front_of_an_await
returns-clause-class_name_in_front_of_an_await c = refl

pub returns-clause-class_named_arguments : goal.returns-clause-class_named_arguments
returns-clause-class_named_arguments c = refl

pub returns-clause-class_named_await_in_an_async_function : goal.returns-clause-class_named_await_in_an_async_function
returns-clause-class_named_await_in_an_async_function c = refl

pub returns-clause-class_named_behind_its_block : goal.returns-clause-class_named_behind_its_block
returns-clause-class_named_behind_its_block c = refl

pub returns-clause-class_named_eval : goal.returns-clause-class_named_eval
returns-clause-class_named_eval c = refl

pub returns-clause-class_named_in_front_of_another : goal.returns-clause-class_named_in_front_of_another
returns-clause-class_named_in_front_of_another c = refl

pub returns-clause-class_named_in_front_of_it : goal.returns-clause-class_named_in_front_of_it
returns-clause-class_named_in_front_of_it c = refl

pub returns-clause-class_named_let : goal.returns-clause-class_named_let
returns-clause-class_named_let c = refl

pub returns-clause-class_out_of_a_block : goal.returns-clause-class_out_of_a_block
returns-clause-class_out_of_a_block c = refl

pub returns-clause-class_out_of_a_branch : goal.returns-clause-class_out_of_a_branch
returns-clause-class_out_of_a_branch c = refl

pub returns-clause-class_out_of_a_chain : goal.returns-clause-class_out_of_a_chain
returns-clause-class_out_of_a_chain c = refl

pub returns-clause-class_read_while_its_block_runs : goal.returns-clause-class_read_while_its_block_runs
returns-clause-class_read_while_its_block_runs c = refl

pub returns-clause-class_temporary_before_its_class : goal.returns-clause-class_temporary_before_its_class
returns-clause-class_temporary_before_its_class c = refl

pub returns-clause-class_temporary_behind_a_called_arrow : goal.returns-clause-class_temporary_behind_a_called_arrow
returns-clause-class_temporary_behind_a_called_arrow c = refl

pub returns-clause-class_temporary_behind_a_called_method : goal.returns-clause-class_temporary_behind_a_called_method
returns-clause-class_temporary_behind_a_called_method c = refl

pub returns-clause-class_temporary_in_its_class : goal.returns-clause-class_temporary_in_its_class
returns-clause-class_temporary_in_its_class c = refl

pub returns-clause-class_temporary_of_a_function_expression : goal.returns-clause-class_temporary_of_a_function_expression
returns-clause-class_temporary_of_a_function_expression c = refl

pub returns-clause-class_temporary_of_another_case : goal.returns-clause-class_temporary_of_another_case
returns-clause-class_temporary_of_another_case c = refl

pub returns-clause-class_updated_by_a_temporary : goal.returns-clause-class_updated_by_a_temporary
returns-clause-class_updated_by_a_temporary c = refl

pub returns-clause-class_updated_by_a_temporary_beside_a_field : goal.returns-clause-class_updated_by_a_temporary_beside_a_field
returns-clause-class_updated_by_a_temporary_beside_a_field c = refl

pub returns-clause-closure_before_its_class : goal.returns-clause-closure_before_its_class
returns-clause-closure_before_its_class c = refl

pub returns-clause-closure_called_in_a_key : goal.returns-clause-closure_called_in_a_key
returns-clause-closure_called_in_a_key c = refl

pub returns-clause-closure_called_in_one_that_was_not_run : goal.returns-clause-closure_called_in_one_that_was_not_run
returns-clause-closure_called_in_one_that_was_not_run c = refl

pub returns-clause-closure_called_twice : goal.returns-clause-closure_called_twice
returns-clause-closure_called_twice c = refl

pub returns-clause-closure_given_behind_its_call : goal.returns-clause-closure_given_behind_its_call
returns-clause-closure_given_behind_its_call c = refl

pub returns-clause-closure_given_in_each_round : goal.returns-clause-closure_given_in_each_round
returns-clause-closure_given_in_each_round c = refl

pub returns-clause-closure_with_the_name_of_a_key : goal.returns-clause-closure_with_the_name_of_a_key
returns-clause-closure_with_the_name_of_a_key c = refl

pub returns-clause-computed_key_behind_an_error : goal.returns-clause-computed_key_behind_an_error
returns-clause-computed_key_behind_an_error c = refl

pub returns-clause-const_beside_await_in_an_arrow : goal.returns-clause-const_beside_await_in_an_arrow
returns-clause-const_beside_await_in_an_arrow c = refl

pub returns-clause-const_without_a_value : goal.returns-clause-const_without_a_value
returns-clause-const_without_a_value c = refl

pub returns-clause-constant_temporary : goal.returns-clause-constant_temporary
returns-clause-constant_temporary c = refl

pub returns-clause-constant_with_the_numbers_of_fields : goal.returns-clause-constant_with_the_numbers_of_fields
returns-clause-constant_with_the_numbers_of_fields c = refl

pub returns-clause-conversion_in_a_key : goal.returns-clause-conversion_in_a_key
returns-clause-conversion_in_a_key c = refl

pub returns-clause-conversion_in_front_of_a_key : goal.returns-clause-conversion_in_front_of_a_key
returns-clause-conversion_in_front_of_a_key c = refl

pub returns-clause-conversion_in_front_of_a_named_class : goal.returns-clause-conversion_in_front_of_a_named_class
returns-clause-conversion_in_front_of_a_named_class c = refl

pub returns-clause-conversion_of_a_call_for_a_read_that_throws : goal.returns-clause-conversion_of_a_call_for_a_read_that_throws
returns-clause-conversion_of_a_call_for_a_read_that_throws c = refl

pub returns-clause-conversion_of_a_call_for_an_assignment : goal.returns-clause-conversion_of_a_call_for_an_assignment
returns-clause-conversion_of_a_call_for_an_assignment c = refl

pub returns-clause-conversion_of_a_class_for_this : goal.returns-clause-conversion_of_a_class_for_this
returns-clause-conversion_of_a_class_for_this c = refl

pub returns-clause-conversion_of_a_class_that_a_key_names : goal.returns-clause-conversion_of_a_class_that_a_key_names
returns-clause-conversion_of_a_class_that_a_key_names c = refl

pub returns-clause-conversion_of_a_key_of_an_object_left_out : goal.returns-clause-conversion_of_a_key_of_an_object_left_out
returns-clause-conversion_of_a_key_of_an_object_left_out c = refl

pub returns-clause-conversion_of_a_name_of_that_spelling : goal.returns-clause-conversion_of_a_name_of_that_spelling
returns-clause-conversion_of_a_name_of_that_spelling c = refl

pub returns-clause-conversion_of_a_name_with_the_number_of_a_key : goal.returns-clause-conversion_of_a_name_with_the_number_of_a_key
returns-clause-conversion_of_a_name_with_the_number_of_a_key c = refl

pub returns-clause-conversion_of_a_private_element : goal.returns-clause-conversion_of_a_private_element
returns-clause-conversion_of_a_private_element c = refl

pub returns-clause-conversion_of_a_sequence_with_the_number_of_a_key : goal.returns-clause-conversion_of_a_sequence_with_the_number_of_a_key
returns-clause-conversion_of_a_sequence_with_the_number_of_a_key c = refl

pub returns-clause-conversion_of_another_new_target : goal.returns-clause-conversion_of_another_new_target
returns-clause-conversion_of_another_new_target c = refl

pub returns-clause-conversion_of_arguments_elsewhere : goal.returns-clause-conversion_of_arguments_elsewhere
returns-clause-conversion_of_arguments_elsewhere c = refl

pub returns-clause-conversion_of_no_key : goal.returns-clause-conversion_of_no_key
returns-clause-conversion_of_no_key c = refl

pub returns-clause-conversion_of_this_with_the_number_of_a_key : goal.returns-clause-conversion_of_this_with_the_number_of_a_key
returns-clause-conversion_of_this_with_the_number_of_a_key c = refl

pub returns-clause-conversion_with_the_number_of_a_key : goal.returns-clause-conversion_with_the_number_of_a_key
returns-clause-conversion_with_the_number_of_a_key c = refl

pub returns-clause-copied_octal_escape : goal.returns-clause-copied_octal_escape
returns-clause-copied_octal_escape c = refl

pub returns-clause-copied_regular_expression : goal.returns-clause-copied_regular_expression
returns-clause-copied_regular_expression c = refl

pub returns-clause-copy_of_a_number : goal.returns-clause-copy_of_a_number
returns-clause-copy_of_a_number c = refl

pub returns-clause-dead_temporary : goal.returns-clause-dead_temporary
returns-clause-dead_temporary c = refl

pub returns-clause-declaration_of_nothing : goal.returns-clause-declaration_of_nothing
returns-clause-declaration_of_nothing c = refl

pub returns-clause-declaration_with_the_numbers_of_fields : goal.returns-clause-declaration_with_the_numbers_of_fields
returns-clause-declaration_with_the_numbers_of_fields c = refl

pub returns-clause-declaration_without_its_name : goal.returns-clause-declaration_without_its_name
returns-clause-declaration_without_its_name c = refl

pub returns-clause-declaration_without_its_name_in_a_method : goal.returns-clause-declaration_without_its_name_in_a_method
returns-clause-declaration_without_its_name_in_a_method c = refl

pub returns-clause-declaration_without_its_names : goal.returns-clause-declaration_without_its_names
returns-clause-declaration_without_its_names c = refl

pub returns-clause-declarator_in_a_const : goal.returns-clause-declarator_in_a_const
returns-clause-declarator_in_a_const c = refl

pub returns-clause-default_class_expression_under_a_name : goal.returns-clause-default_class_expression_under_a_name
returns-clause-default_class_expression_under_a_name c = refl

pub returns-clause-default_export_behind_a_call : goal.returns-clause-default_export_behind_a_call
returns-clause-default_export_behind_a_call c = refl

pub returns-clause-default_value_behind_a_call : goal.returns-clause-default_value_behind_a_call
returns-clause-default_value_behind_a_call c = refl

pub returns-clause-defaults_exchanged_behind_an_error : goal.returns-clause-defaults_exchanged_behind_an_error
returns-clause-defaults_exchanged_behind_an_error c = refl

pub returns-clause-delegation_behind_an_error : goal.returns-clause-delegation_behind_an_error
returns-clause-delegation_behind_an_error c = refl

pub returns-clause-delete_of_a_name_behind_a_throw : goal.returns-clause-delete_of_a_name_behind_a_throw
returns-clause-delete_of_a_name_behind_a_throw c = refl

pub returns-clause-delete_of_a_private_property : goal.returns-clause-delete_of_a_private_property
returns-clause-delete_of_a_private_property c = refl

pub returns-clause-directive_behind_a_name : goal.returns-clause-directive_behind_a_name
returns-clause-directive_behind_a_name c = refl

pub returns-clause-elements_of_a_written_class_dropped : goal.returns-clause-elements_of_a_written_class_dropped
returns-clause-elements_of_a_written_class_dropped c = refl

pub returns-clause-export_in_a_block : goal.returns-clause-export_in_a_block
returns-clause-export_in_a_block c = refl

pub returns-clause-export_of_a_call : goal.returns-clause-export_of_a_call
returns-clause-export_of_a_call c = refl

pub returns-clause-field_of_a_written_class_doubled : goal.returns-clause-field_of_a_written_class_doubled
returns-clause-field_of_a_written_class_doubled c = refl

pub returns-clause-field_of_a_written_class_dropped : goal.returns-clause-field_of_a_written_class_dropped
returns-clause-field_of_a_written_class_dropped c = refl

pub returns-clause-fields_of_a_written_class_exchanged : goal.returns-clause-fields_of_a_written_class_exchanged
returns-clause-fields_of_a_written_class_exchanged c = refl

pub returns-clause-flags_of_no_regular_expression : goal.returns-clause-flags_of_no_regular_expression
returns-clause-flags_of_no_regular_expression c = refl

pub returns-clause-function_in_a_class : goal.returns-clause-function_in_a_class
returns-clause-function_in_a_class c = refl

pub returns-clause-function_out_of_its_block : goal.returns-clause-function_out_of_its_block
returns-clause-function_out_of_its_block c = refl

pub returns-clause-getter_behind_an_error : goal.returns-clause-getter_behind_an_error
returns-clause-getter_behind_an_error c = refl

pub returns-clause-handler_dropped_behind_an_error : goal.returns-clause-handler_dropped_behind_an_error
returns-clause-handler_dropped_behind_an_error c = refl

pub returns-clause-handler_exchanged_behind_an_error : goal.returns-clause-handler_exchanged_behind_an_error
returns-clause-handler_exchanged_behind_an_error c = refl

pub returns-clause-heads_exchanged_behind_an_error : goal.returns-clause-heads_exchanged_behind_an_error
returns-clause-heads_exchanged_behind_an_error c = refl

pub returns-clause-hidden_body : goal.returns-clause-hidden_body
returns-clause-hidden_body c = refl

pub returns-clause-import_meta_behind_an_error : goal.returns-clause-import_meta_behind_an_error
returns-clause-import_meta_behind_an_error c = refl

pub returns-clause-initialized_head_behind_an_error : goal.returns-clause-initialized_head_behind_an_error
returns-clause-initialized_head_behind_an_error c = refl

pub returns-clause-key_given_again : goal.returns-clause-key_given_again
returns-clause-key_given_again c = refl

pub returns-clause-key_in_front_of_what_it_reads : goal.returns-clause-key_in_front_of_what_it_reads
returns-clause-key_in_front_of_what_it_reads c = refl

pub returns-clause-key_kept_beside_a_conversion : goal.returns-clause-key_kept_beside_a_conversion
returns-clause-key_kept_beside_a_conversion c = refl

pub returns-clause-key_kept_by_a_call : goal.returns-clause-key_kept_by_a_call
returns-clause-key_kept_by_a_call c = refl

pub returns-clause-key_kept_by_a_logical_assignment : goal.returns-clause-key_kept_by_a_logical_assignment
returns-clause-key_kept_by_a_logical_assignment c = refl

pub returns-clause-key_kept_by_an_assigned_function : goal.returns-clause-key_kept_by_an_assigned_function
returns-clause-key_kept_by_an_assigned_function c = refl

pub returns-clause-key_of_a_class_in_front_of_its_heritage : goal.returns-clause-key_of_a_class_in_front_of_its_heritage
returns-clause-key_of_a_class_in_front_of_its_heritage c = refl

pub returns-clause-key_of_another_member : goal.returns-clause-key_of_another_member
returns-clause-key_of_another_member c = refl

pub returns-clause-key_outside_of_a_called_function : goal.returns-clause-key_outside_of_a_called_function
returns-clause-key_outside_of_a_called_function c = refl

pub returns-clause-label_behind_an_error : goal.returns-clause-label_behind_an_error
returns-clause-label_behind_an_error c = refl

pub returns-clause-label_in_an_async_function : goal.returns-clause-label_in_an_async_function
returns-clause-label_in_an_async_function c = refl

pub returns-clause-label_twice : goal.returns-clause-label_twice
returns-clause-label_twice c = refl

pub returns-clause-label_word_behind_an_error : goal.returns-clause-label_word_behind_an_error
returns-clause-label_word_behind_an_error c = refl

pub returns-clause-labelled_function_in_a_branch : goal.returns-clause-labelled_function_in_a_branch
returns-clause-labelled_function_in_a_branch c = refl

pub returns-clause-let_behind_a_call : goal.returns-clause-let_behind_a_call
returns-clause-let_behind_a_call c = refl

pub returns-clause-let_behind_a_constructor : goal.returns-clause-let_behind_a_constructor
returns-clause-let_behind_a_constructor c = refl

pub returns-clause-let_behind_a_field : goal.returns-clause-let_behind_a_field
returns-clause-let_behind_a_field c = refl

pub returns-clause-let_behind_an_arrow : goal.returns-clause-let_behind_an_arrow
returns-clause-let_behind_an_arrow c = refl

pub returns-clause-let_in_strict_code : goal.returns-clause-let_in_strict_code
returns-clause-let_in_strict_code c = refl

pub returns-clause-let_of_another_case : goal.returns-clause-let_of_another_case
returns-clause-let_of_another_case c = refl

pub returns-clause-let_out_of_its_block : goal.returns-clause-let_out_of_its_block
returns-clause-let_out_of_its_block c = refl

pub returns-clause-let_read_in_a_method : goal.returns-clause-let_read_in_a_method
returns-clause-let_read_in_a_method c = refl

pub returns-clause-let_read_in_its_value : goal.returns-clause-let_read_in_its_value
returns-clause-let_read_in_its_value c = refl

pub returns-clause-map_behind_a_key : goal.returns-clause-map_behind_a_key
returns-clause-map_behind_a_key c = refl

pub returns-clause-map_behind_a_key_that_asks : goal.returns-clause-map_behind_a_key_that_asks
returns-clause-map_behind_a_key_that_asks c = refl

pub returns-clause-map_made_in_a_block : goal.returns-clause-map_made_in_a_block
returns-clause-map_made_in_a_block c = refl

pub returns-clause-map_made_in_a_branch : goal.returns-clause-map_made_in_a_branch
returns-clause-map_made_in_a_branch c = refl

pub returns-clause-map_made_in_a_called_arrow : goal.returns-clause-map_made_in_a_called_arrow
returns-clause-map_made_in_a_called_arrow c = refl

pub returns-clause-map_made_in_a_pattern : goal.returns-clause-map_made_in_a_pattern
returns-clause-map_made_in_a_pattern c = refl

pub returns-clause-map_made_in_each_round : goal.returns-clause-map_made_in_each_round
returns-clause-map_made_in_each_round c = refl

pub returns-clause-map_of_a_function_expression : goal.returns-clause-map_of_a_function_expression
returns-clause-map_of_a_function_expression c = refl

pub returns-clause-map_outside_of_a_called_function : goal.returns-clause-map_outside_of_a_called_function
returns-clause-map_outside_of_a_called_function c = refl

pub returns-clause-map_outside_of_a_private_method : goal.returns-clause-map_outside_of_a_private_method
returns-clause-map_outside_of_a_private_method c = refl

pub returns-clause-map_without_class_properties : goal.returns-clause-map_without_class_properties
returns-clause-map_without_class_properties c = refl

pub returns-clause-method_assigned_in_another_function : goal.returns-clause-method_assigned_in_another_function
returns-clause-method_assigned_in_another_function c = refl

pub returns-clause-method_given_behind_its_calls : goal.returns-clause-method_given_behind_its_calls
returns-clause-method_given_behind_its_calls c = refl

pub returns-clause-method_outside_of_a_called_function : goal.returns-clause-method_outside_of_a_called_function
returns-clause-method_outside_of_a_called_function c = refl

pub returns-clause-name_given_behind_a_call : goal.returns-clause-name_given_behind_a_call
returns-clause-name_given_behind_a_call c = refl

pub returns-clause-name_given_behind_a_field : goal.returns-clause-name_given_behind_a_field
returns-clause-name_given_behind_a_field c = refl

pub returns-clause-name_given_in_a_closure : goal.returns-clause-name_given_in_a_closure
returns-clause-name_given_in_a_closure c = refl

pub returns-clause-name_in_a_static_block : goal.returns-clause-name_in_a_static_block
returns-clause-name_in_a_static_block c = refl

pub returns-clause-name_in_front_of_a_class_declaration : goal.returns-clause-name_in_front_of_a_class_declaration
returns-clause-name_in_front_of_a_class_declaration c = refl

pub returns-clause-name_in_front_of_a_class_that_names_itself : goal.returns-clause-name_in_front_of_a_class_that_names_itself
returns-clause-name_in_front_of_a_class_that_names_itself c = refl

pub returns-clause-name_in_front_of_a_conversion_in_a_template : goal.returns-clause-name_in_front_of_a_conversion_in_a_template
returns-clause-name_in_front_of_a_conversion_in_a_template c = refl

pub returns-clause-name_in_front_of_a_default_export : goal.returns-clause-name_in_front_of_a_default_export
returns-clause-name_in_front_of_a_default_export c = refl

pub returns-clause-name_in_front_of_a_definition : goal.returns-clause-name_in_front_of_a_definition
returns-clause-name_in_front_of_a_definition c = refl

pub returns-clause-name_in_front_of_a_function_in_a_block : goal.returns-clause-name_in_front_of_a_function_in_a_block
returns-clause-name_in_front_of_a_function_in_a_block c = refl

pub returns-clause-name_in_front_of_a_write_behind_a_sum : goal.returns-clause-name_in_front_of_a_write_behind_a_sum
returns-clause-name_in_front_of_a_write_behind_a_sum c = refl

pub returns-clause-name_in_front_of_a_write_that_throws : goal.returns-clause-name_in_front_of_a_write_that_throws
returns-clause-name_in_front_of_a_write_that_throws c = refl

pub returns-clause-name_in_front_of_the_fields : goal.returns-clause-name_in_front_of_the_fields
returns-clause-name_in_front_of_the_fields c = refl

pub returns-clause-name_of_a_class_that_goes_nowhere : goal.returns-clause-name_of_a_class_that_goes_nowhere
returns-clause-name_of_a_class_that_goes_nowhere c = refl

pub returns-clause-name_of_a_class_with_a_block : goal.returns-clause-name_of_a_class_with_a_block
returns-clause-name_of_a_class_with_a_block c = refl

pub returns-clause-name_of_a_key_in_a_constructor : goal.returns-clause-name_of_a_key_in_a_constructor
returns-clause-name_of_a_key_in_a_constructor c = refl

pub returns-clause-name_of_a_key_in_front_of_an_await : goal.returns-clause-name_of_a_key_in_front_of_an_await
returns-clause-name_of_a_key_in_front_of_an_await c = refl

pub returns-clause-name_of_a_named_class : goal.returns-clause-name_of_a_named_class
returns-clause-name_of_a_named_class c = refl

pub returns-clause-name_of_a_pattern_in_front_of_its_key : goal.returns-clause-name_of_a_pattern_in_front_of_its_key
returns-clause-name_of_a_pattern_in_front_of_its_key c = refl

pub returns-clause-name_of_another_character : goal.returns-clause-name_of_another_character
returns-clause-name_of_another_character c = refl

pub returns-clause-name_of_no_member : goal.returns-clause-name_of_no_member
returns-clause-name_of_no_member c = refl

pub returns-clause-name_that_begins_as_none : goal.returns-clause-name_that_begins_as_none
returns-clause-name_that_begins_as_none c = refl

pub returns-clause-name_twice : goal.returns-clause-name_twice
returns-clause-name_twice c = refl

pub returns-clause-name_without_a_sign : goal.returns-clause-name_without_a_sign
returns-clause-name_without_a_sign c = refl

pub returns-clause-names_of_a_head_behind_an_error : goal.returns-clause-names_of_a_head_behind_an_error
returns-clause-names_of_a_head_behind_an_error c = refl

pub returns-clause-names_of_an_initialized_head : goal.returns-clause-names_of_an_initialized_head
returns-clause-names_of_an_initialized_head c = refl

pub returns-clause-new_label_behind_an_error : goal.returns-clause-new_label_behind_an_error
returns-clause-new_label_behind_an_error c = refl

pub returns-clause-new_target_outside : goal.returns-clause-new_target_outside
returns-clause-new_target_outside c = refl

pub returns-clause-nothing_declared_behind_a_bigint : goal.returns-clause-nothing_declared_behind_a_bigint
returns-clause-nothing_declared_behind_a_bigint c = refl

pub returns-clause-nothing_declared_behind_a_directive : goal.returns-clause-nothing_declared_behind_a_directive
returns-clause-nothing_declared_behind_a_directive c = refl

pub returns-clause-nothing_declared_behind_a_string : goal.returns-clause-nothing_declared_behind_a_string
returns-clause-nothing_declared_behind_a_string c = refl

pub returns-clause-number_that_strict_code_has_not : goal.returns-clause-number_that_strict_code_has_not
returns-clause-number_that_strict_code_has_not c = refl

pub returns-clause-own_name_in_a_heritage : goal.returns-clause-own_name_in_a_heritage
returns-clause-own_name_in_a_heritage c = refl

pub returns-clause-own_name_in_a_key : goal.returns-clause-own_name_in_a_key
returns-clause-own_name_in_a_key c = refl

pub returns-clause-own_name_that_becomes_a_let : goal.returns-clause-own_name_that_becomes_a_let
returns-clause-own_name_that_becomes_a_let c = refl

pub returns-clause-own_name_that_is_meant : goal.returns-clause-own_name_that_is_meant
returns-clause-own_name_that_is_meant c = refl

pub returns-clause-parameter_read_later : goal.returns-clause-parameter_read_later
returns-clause-parameter_read_later c = refl

pub returns-clause-parameter_renamed : goal.returns-clause-parameter_renamed
returns-clause-parameter_renamed c = refl

pub returns-clause-pattern_of_no_regular_expression : goal.returns-clause-pattern_of_no_regular_expression
returns-clause-pattern_of_no_regular_expression c = refl

pub returns-clause-pattern_without_a_value : goal.returns-clause-pattern_without_a_value
returns-clause-pattern_without_a_value c = refl

pub returns-clause-private_element_of_the_class_around : goal.returns-clause-private_element_of_the_class_around
returns-clause-private_element_of_the_class_around c = refl

pub returns-clause-private_method_in_front_of_its_class : goal.returns-clause-private_method_in_front_of_its_class
returns-clause-private_method_in_front_of_its_class c = refl

pub returns-clause-private_method_outside_of_a_function : goal.returns-clause-private_method_outside_of_a_function
returns-clause-private_method_outside_of_a_function c = refl

pub returns-clause-private_name_constructor : goal.returns-clause-private_name_constructor
returns-clause-private_name_constructor c = refl

pub returns-clause-private_name_of_another_member : goal.returns-clause-private_name_of_another_member
returns-clause-private_name_of_another_member c = refl

pub returns-clause-private_name_twice : goal.returns-clause-private_name_twice
returns-clause-private_name_twice c = refl

pub returns-clause-property_with_the_number_of_a_block : goal.returns-clause-property_with_the_number_of_a_block
returns-clause-property_with_the_number_of_a_block c = refl

pub returns-clause-prototype_by_exchanged_names_behind_an_error : goal.returns-clause-prototype_by_exchanged_names_behind_an_error
returns-clause-prototype_by_exchanged_names_behind_an_error c = refl

pub returns-clause-prototype_key_behind_an_error : goal.returns-clause-prototype_key_behind_an_error
returns-clause-prototype_key_behind_an_error c = refl

pub returns-clause-prototype_of_a_shorthand : goal.returns-clause-prototype_of_a_shorthand
returns-clause-prototype_of_a_shorthand c = refl

pub returns-clause-prototypes_behind_an_error : goal.returns-clause-prototypes_behind_an_error
returns-clause-prototypes_behind_an_error c = refl

pub returns-clause-prototypes_exchanged_behind_an_error : goal.returns-clause-prototypes_exchanged_behind_an_error
returns-clause-prototypes_exchanged_behind_an_error c = refl

pub returns-clause-question_on_a_static_field : goal.returns-clause-question_on_a_static_field
returns-clause-question_on_a_static_field c = refl

pub returns-clause-raw_of_a_string : goal.returns-clause-raw_of_a_string
returns-clause-raw_of_a_string c = refl

pub returns-clause-raw_of_a_template : goal.returns-clause-raw_of_a_template
returns-clause-raw_of_a_template c = refl

pub returns-clause-reading_of_another_function : goal.returns-clause-reading_of_another_function
returns-clause-reading_of_another_function c = refl

pub returns-clause-reading_that_is_new : goal.returns-clause-reading_that_is_new
returns-clause-reading_that_is_new c = refl

pub returns-clause-regular_expression_read_twice : goal.returns-clause-regular_expression_read_twice
returns-clause-regular_expression_read_twice c = refl

pub returns-clause-rests_exchanged_behind_an_error : goal.returns-clause-rests_exchanged_behind_an_error
returns-clause-rests_exchanged_behind_an_error c = refl

pub returns-clause-second_string_that_a_printer_makes_a_directive : goal.returns-clause-second_string_that_a_printer_makes_a_directive
returns-clause-second_string_that_a_printer_makes_a_directive c = refl

pub returns-clause-setter_in_a_super_function_that_nothing_calls : goal.returns-clause-setter_in_a_super_function_that_nothing_calls
returns-clause-setter_in_a_super_function_that_nothing_calls c = refl

pub returns-clause-shorthand_of_an_operator : goal.returns-clause-shorthand_of_an_operator
returns-clause-shorthand_of_an_operator c = refl

pub returns-clause-strict_arrow : goal.returns-clause-strict_arrow
returns-clause-strict_arrow c = refl

pub returns-clause-strict_default_export_with_a_pattern : goal.returns-clause-strict_default_export_with_a_pattern
returns-clause-strict_default_export_with_a_pattern c = refl

pub returns-clause-strict_rest : goal.returns-clause-strict_rest
returns-clause-strict_rest c = refl

pub returns-clause-string_that_a_printer_makes_a_directive : goal.returns-clause-string_that_a_printer_makes_a_directive
returns-clause-string_that_a_printer_makes_a_directive c = refl

pub returns-clause-super_addition_that_becomes_strict : goal.returns-clause-super_addition_that_becomes_strict
returns-clause-super_addition_that_becomes_strict c = refl

pub returns-clause-super_call_in_a_super_function_that_nothing_calls : goal.returns-clause-super_call_in_a_super_function_that_nothing_calls
returns-clause-super_call_in_a_super_function_that_nothing_calls c = refl

pub returns-clause-super_function_behind_a_call : goal.returns-clause-super_function_behind_a_call
returns-clause-super_function_behind_a_call c = refl

pub returns-clause-super_function_behind_its_calls : goal.returns-clause-super_function_behind_its_calls
returns-clause-super_function_behind_its_calls c = refl

pub returns-clause-super_function_of_a_static_block : goal.returns-clause-super_function_of_a_static_block
returns-clause-super_function_of_a_static_block c = refl

pub returns-clause-super_function_outside_of_a_function : goal.returns-clause-super_function_outside_of_a_function
returns-clause-super_function_outside_of_a_function c = refl

pub returns-clause-super_function_that_nothing_calls_outside : goal.returns-clause-super_function_that_nothing_calls_outside
returns-clause-super_function_that_nothing_calls_outside c = refl

pub returns-clause-super_function_without_fields : goal.returns-clause-super_function_without_fields
returns-clause-super_function_without_fields c = refl

pub returns-clause-super_in_a_function_that_nothing_calls : goal.returns-clause-super_in_a_function_that_nothing_calls
returns-clause-super_in_a_function_that_nothing_calls c = refl

pub returns-clause-super_logical_assignment_that_becomes_strict : goal.returns-clause-super_logical_assignment_that_becomes_strict
returns-clause-super_logical_assignment_that_becomes_strict c = refl

pub returns-clause-super_update_that_becomes_strict : goal.returns-clause-super_update_that_becomes_strict
returns-clause-super_update_that_becomes_strict c = refl

pub returns-clause-tag_of_a_private_element : goal.returns-clause-tag_of_a_private_element
returns-clause-tag_of_a_private_element c = refl

pub returns-clause-temporary_given_again : goal.returns-clause-temporary_given_again
returns-clause-temporary_given_again c = refl

pub returns-clause-temporary_given_again_in_a_branch : goal.returns-clause-temporary_given_again_in_a_branch
returns-clause-temporary_given_again_in_a_branch c = refl

pub returns-clause-temporary_given_again_in_a_loop : goal.returns-clause-temporary_given_again_in_a_loop
returns-clause-temporary_given_again_in_a_loop c = refl

pub returns-clause-temporary_given_again_in_a_round : goal.returns-clause-temporary_given_again_in_a_round
returns-clause-temporary_given_again_in_a_round c = refl

pub returns-clause-temporary_of_a_hoisted_function : goal.returns-clause-temporary_of_a_hoisted_function
returns-clause-temporary_of_a_hoisted_function c = refl

pub returns-clause-temporary_of_the_program : goal.returns-clause-temporary_of_the_program
returns-clause-temporary_of_the_program c = refl

pub returns-clause-test_dropped_behind_an_error : goal.returns-clause-test_dropped_behind_an_error
returns-clause-test_dropped_behind_an_error c = refl

pub returns-clause-test_of_a_member_of_the_source : goal.returns-clause-test_of_a_member_of_the_source
returns-clause-test_of_a_member_of_the_source c = refl

pub returns-clause-text_of_a_directive : goal.returns-clause-text_of_a_directive
returns-clause-text_of_a_directive c = refl

pub returns-clause-this_in_a_new_constructor : goal.returns-clause-this_in_a_new_constructor
returns-clause-this_in_a_new_constructor c = refl

pub returns-clause-this_in_an_arrow : goal.returns-clause-this_in_an_arrow
returns-clause-this_in_an_arrow c = refl

pub returns-clause-this_in_front_of_an_arrow_with_super : goal.returns-clause-this_in_front_of_an_arrow_with_super
returns-clause-this_in_front_of_an_arrow_with_super c = refl

pub returns-clause-this_in_front_of_super : goal.returns-clause-this_in_front_of_super
returns-clause-this_in_front_of_super c = refl

pub returns-clause-this_in_front_of_the_conversion_of_a_key : goal.returns-clause-this_in_front_of_the_conversion_of_a_key
returns-clause-this_in_front_of_the_conversion_of_a_key c = refl

pub returns-clause-this_of_a_static_arrow : goal.returns-clause-this_of_a_static_arrow
returns-clause-this_of_a_static_arrow c = refl

pub returns-clause-this_out_of_an_arrow : goal.returns-clause-this_out_of_an_arrow
returns-clause-this_out_of_an_arrow c = refl

pub returns-clause-two_brands : goal.returns-clause-two_brands
returns-clause-two_brands c = refl

pub returns-clause-two_functions : goal.returns-clause-two_functions
returns-clause-two_functions c = refl

pub returns-clause-two_maps : goal.returns-clause-two_maps
returns-clause-two_maps c = refl

pub returns-clause-unconverted_kept_key : goal.returns-clause-unconverted_kept_key
returns-clause-unconverted_kept_key c = refl

pub returns-clause-unconverted_name_of_a_class : goal.returns-clause-unconverted_name_of_a_class
returns-clause-unconverted_name_of_a_class c = refl

pub returns-clause-uncooked_template : goal.returns-clause-uncooked_template
returns-clause-uncooked_template c = refl

pub returns-clause-undeclared_private_name : goal.returns-clause-undeclared_private_name
returns-clause-undeclared_private_name c = refl

pub returns-clause-untested_name_of_a_class : goal.returns-clause-untested_name_of_a_class
returns-clause-untested_name_of_a_class c = refl

pub returns-clause-value_in_front_of_its_class : goal.returns-clause-value_in_front_of_its_class
returns-clause-value_in_front_of_its_class c = refl

pub returns-clause-weak_map_in_another_function : goal.returns-clause-weak_map_in_another_function
returns-clause-weak_map_in_another_function c = refl

pub returns-clause-write_behind_a_pattern : goal.returns-clause-write_behind_a_pattern
returns-clause-write_behind_a_pattern c = refl

pub returns-clause-yield_in_a_generator : goal.returns-clause-yield_in_a_generator
returns-clause-yield_in_a_generator c = refl

pub returns-clause-yield_in_another_function : goal.returns-clause-yield_in_another_function
returns-clause-yield_in_another_function c = refl
