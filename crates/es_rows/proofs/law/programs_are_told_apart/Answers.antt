use Rattle.std.specs.Prelude.{refl}
use Rattle.es_rows.proofs.law.programs_are_told_apart.Goals as goal

pub returns-clause-arguments_behind_a_write : goal.returns-clause-arguments_behind_a_write
returns-clause-arguments_behind_a_write c = (refl, refl, refl)

pub returns-clause-arguments_of_a_block : goal.returns-clause-arguments_of_a_block
returns-clause-arguments_of_a_block c = (refl, refl, refl)

pub returns-clause-arguments_of_an_inner_function : goal.returns-clause-arguments_of_an_inner_function
returns-clause-arguments_of_an_inner_function c = (refl, refl, refl)

pub returns-clause-async_function_around_a_function_in_a_case : goal.returns-clause-async_function_around_a_function_in_a_case
returns-clause-async_function_around_a_function_in_a_case c = (refl, refl, refl)

pub returns-clause-branch_that_names_itself : goal.returns-clause-branch_that_names_itself
returns-clause-branch_that_names_itself c = (refl, refl, refl)

pub returns-clause-caught_name_around_a_branch : goal.returns-clause-caught_name_around_a_branch
returns-clause-caught_name_around_a_branch c = (refl, refl, refl)

pub returns-clause-caught_name_around_a_second_branch : goal.returns-clause-caught_name_around_a_second_branch
returns-clause-caught_name_around_a_second_branch c = (refl, refl, refl)

pub returns-clause-caught_names_exchanged : goal.returns-clause-caught_names_exchanged
returns-clause-caught_names_exchanged c = (refl, refl, refl)

pub returns-clause-default_exports : goal.returns-clause-default_exports
returns-clause-default_exports c = (refl, refl, refl)

pub returns-clause-default_function : goal.returns-clause-default_function
returns-clause-default_function c = (refl, refl, refl)

pub returns-clause-delete_of_a_name : goal.returns-clause-delete_of_a_name
returns-clause-delete_of_a_name c = (refl, refl, refl)

pub returns-clause-function_in_a_block_inside_of_what_catches : goal.returns-clause-function_in_a_block_inside_of_what_catches
returns-clause-function_in_a_block_inside_of_what_catches c = (refl, refl, refl)

pub returns-clause-function_in_a_block_of_another_name : goal.returns-clause-function_in_a_block_of_another_name
returns-clause-function_in_a_block_of_another_name c = (refl, refl, refl)

pub returns-clause-function_in_a_branch_of_a_block : goal.returns-clause-function_in_a_branch_of_a_block
returns-clause-function_in_a_branch_of_a_block c = (refl, refl, refl)

pub returns-clause-function_in_a_catch : goal.returns-clause-function_in_a_catch
returns-clause-function_in_a_catch c = (refl, refl, refl)

pub returns-clause-function_of_a_block : goal.returns-clause-function_of_a_block
returns-clause-function_of_a_block c = (refl, refl, refl)

pub returns-clause-function_of_a_block_over_a_var : goal.returns-clause-function_of_a_block_over_a_var
returns-clause-function_of_a_block_over_a_var c = (refl, refl, refl)

pub returns-clause-function_of_a_branch : goal.returns-clause-function_of_a_branch
returns-clause-function_of_a_branch c = (refl, refl, refl)

pub returns-clause-function_of_a_case : goal.returns-clause-function_of_a_case
returns-clause-function_of_a_case c = (refl, refl, refl)

pub returns-clause-function_of_a_parameter : goal.returns-clause-function_of_a_parameter
returns-clause-function_of_a_parameter c = (refl, refl, refl)

pub returns-clause-generator_around_a_function_in_a_block : goal.returns-clause-generator_around_a_function_in_a_block
returns-clause-generator_around_a_function_in_a_block c = (refl, refl, refl)

pub returns-clause-getter_or_method : goal.returns-clause-getter_or_method
returns-clause-getter_or_method c = (refl, refl, refl)

pub returns-clause-global_renamed : goal.returns-clause-global_renamed
returns-clause-global_renamed c = (refl, refl, refl)

pub returns-clause-heads_of_loops_exchanged : goal.returns-clause-heads_of_loops_exchanged
returns-clause-heads_of_loops_exchanged c = (refl, refl, refl)

pub returns-clause-hole_in_a_pattern : goal.returns-clause-hole_in_a_pattern
returns-clause-hole_in_a_pattern c = (refl, refl, refl)

pub returns-clause-imports_exchanged : goal.returns-clause-imports_exchanged
returns-clause-imports_exchanged c = (refl, refl, refl)

pub returns-clause-inner_name_of_a_written_class : goal.returns-clause-inner_name_of_a_written_class
returns-clause-inner_name_of_a_written_class c = (refl, refl, refl)

pub returns-clause-key_heads_exchanged : goal.returns-clause-key_heads_exchanged
returns-clause-key_heads_exchanged c = (refl, refl, refl)

pub returns-clause-labelled_function_in_a_block : goal.returns-clause-labelled_function_in_a_block
returns-clause-labelled_function_in_a_block c = (refl, refl, refl)

pub returns-clause-let_at_the_head_of_a_loop : goal.returns-clause-let_at_the_head_of_a_loop
returns-clause-let_at_the_head_of_a_loop c = (refl, refl, refl)

pub returns-clause-let_inside_of_what_catches : goal.returns-clause-let_inside_of_what_catches
returns-clause-let_inside_of_what_catches c = (refl, refl, refl)

pub returns-clause-let_of_a_head : goal.returns-clause-let_of_a_head
returns-clause-let_of_a_head c = (refl, refl, refl)

pub returns-clause-let_out_of_a_loop : goal.returns-clause-let_out_of_a_loop
returns-clause-let_out_of_a_loop c = (refl, refl, refl)

pub returns-clause-loop_heads_exchanged : goal.returns-clause-loop_heads_exchanged
returns-clause-loop_heads_exchanged c = (refl, refl, refl)

pub returns-clause-own_name_of_a_class_behind_a_write : goal.returns-clause-own_name_of_a_class_behind_a_write
returns-clause-own_name_of_a_class_behind_a_write c = (refl, refl, refl)

pub returns-clause-own_name_of_a_declaration_written : goal.returns-clause-own_name_of_a_declaration_written
returns-clause-own_name_of_a_declaration_written c = (refl, refl, refl)

pub returns-clause-own_name_of_a_declaration_written_later : goal.returns-clause-own_name_of_a_declaration_written_later
returns-clause-own_name_of_a_declaration_written_later c = (refl, refl, refl)

pub returns-clause-own_names_exchanged : goal.returns-clause-own_names_exchanged
returns-clause-own_names_exchanged c = (refl, refl, refl)

pub returns-clause-parameters_exchanged : goal.returns-clause-parameters_exchanged
returns-clause-parameters_exchanged c = (refl, refl, refl)

pub returns-clause-pattern_keys : goal.returns-clause-pattern_keys
returns-clause-pattern_keys c = (refl, refl, refl)

pub returns-clause-private_method_of_another_class : goal.returns-clause-private_method_of_another_class
returns-clause-private_method_of_another_class c = (refl, refl, refl)

pub returns-clause-read_behind_a_function_in_a_block : goal.returns-clause-read_behind_a_function_in_a_block
returns-clause-read_behind_a_function_in_a_block c = (refl, refl, refl)

pub returns-clause-read_in_front_of_a_block : goal.returns-clause-read_in_front_of_a_block
returns-clause-read_in_front_of_a_block c = (refl, refl, refl)

pub returns-clause-regular_expressions_of_one_text : goal.returns-clause-regular_expressions_of_one_text
returns-clause-regular_expressions_of_one_text c = (refl, refl, refl)

pub returns-clause-rest_dropped : goal.returns-clause-rest_dropped
returns-clause-rest_dropped c = (refl, refl, refl)

pub returns-clause-shared_parameters : goal.returns-clause-shared_parameters
returns-clause-shared_parameters c = (refl, refl, refl)

pub returns-clause-statement_of_an_if : goal.returns-clause-statement_of_an_if
returns-clause-statement_of_an_if c = (refl, refl, refl)

pub returns-clause-statements_behind_a_throw : goal.returns-clause-statements_behind_a_throw
returns-clause-statements_behind_a_throw c = (refl, refl, refl)

pub returns-clause-static_getter_or_method : goal.returns-clause-static_getter_or_method
returns-clause-static_getter_or_method c = (refl, refl, refl)

pub returns-clause-static_private_method_of_another_class : goal.returns-clause-static_private_method_of_another_class
returns-clause-static_private_method_of_another_class c = (refl, refl, refl)

pub returns-clause-tail_of_a_template : goal.returns-clause-tail_of_a_template
returns-clause-tail_of_a_template c = (refl, refl, refl)

pub returns-clause-template_key : goal.returns-clause-template_key
returns-clause-template_key c = (refl, refl, refl)

pub returns-clause-tested_name : goal.returns-clause-tested_name
returns-clause-tested_name c = (refl, refl, refl)

pub returns-clause-typeof_of_a_name : goal.returns-clause-typeof_of_a_name
returns-clause-typeof_of_a_name c = (refl, refl, refl)

pub returns-clause-var_arguments : goal.returns-clause-var_arguments
returns-clause-var_arguments c = (refl, refl, refl)

pub returns-clause-var_of_a_static_block : goal.returns-clause-var_of_a_static_block
returns-clause-var_of_a_static_block c = (refl, refl, refl)

pub returns-clause-void_of_a_template : goal.returns-clause-void_of_a_template
returns-clause-void_of_a_template c = (refl, refl, refl)
