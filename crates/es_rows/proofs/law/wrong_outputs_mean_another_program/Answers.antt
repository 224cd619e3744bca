use Rattle.std.specs.Prelude.{refl}
use Rattle.es_rows.proofs.law.wrong_outputs_mean_another_program.Goals as goal

pub returns-clause-arguments_of_a_function_around : goal.returns-clause-arguments_of_a_function_around
returns-clause-arguments_of_a_function_around c = (refl, refl)

pub returns-clause-arrow_moved_into_parameters : goal.returns-clause-arrow_moved_into_parameters
returns-clause-arrow_moved_into_parameters c = (refl, refl)

pub returns-clause-block_behind_a_kept_field : goal.returns-clause-block_behind_a_kept_field
returns-clause-block_behind_a_kept_field c = (refl, refl)

pub returns-clause-block_dropped : goal.returns-clause-block_dropped
returns-clause-block_dropped c = (refl, refl)

pub returns-clause-branch_of_a_key_of_another : goal.returns-clause-branch_of_a_key_of_another
returns-clause-branch_of_a_key_of_another c = (refl, refl)

pub returns-clause-conversions_of_a_template : goal.returns-clause-conversions_of_a_template
returns-clause-conversions_of_a_template c = (refl, refl)

pub returns-clause-default_function_expression : goal.returns-clause-default_function_expression
returns-clause-default_function_expression c = (refl, refl)

pub returns-clause-elements_dropped : goal.returns-clause-elements_dropped
returns-clause-elements_dropped c = (refl, refl)

pub returns-clause-functions_of_a_block_exchanged : goal.returns-clause-functions_of_a_block_exchanged
returns-clause-functions_of_a_block_exchanged c = (refl, refl)

pub returns-clause-import_read_early : goal.returns-clause-import_read_early
returns-clause-import_read_early c = (refl, refl)

pub returns-clause-let_beside_a_caught_name : goal.returns-clause-let_beside_a_caught_name
returns-clause-let_beside_a_caught_name c = (refl, refl)

pub returns-clause-let_out_of_a_head : goal.returns-clause-let_out_of_a_head
returns-clause-let_out_of_a_head c = (refl, refl)

pub returns-clause-question_for_another_field : goal.returns-clause-question_for_another_field
returns-clause-question_for_another_field c = (refl, refl)

pub returns-clause-read_moved : goal.returns-clause-read_moved
returns-clause-read_moved c = (refl, refl)

pub returns-clause-regular_expression_of_another_argument : goal.returns-clause-regular_expression_of_another_argument
returns-clause-regular_expression_of_another_argument c = (refl, refl)

pub returns-clause-regular_expressions_exchanged : goal.returns-clause-regular_expressions_exchanged
returns-clause-regular_expressions_exchanged c = (refl, refl)

pub returns-clause-statement_of_another_case : goal.returns-clause-statement_of_another_case
returns-clause-statement_of_another_case c = (refl, refl)

pub returns-clause-statements_of_a_case_exchanged : goal.returns-clause-statements_of_a_case_exchanged
returns-clause-statements_of_a_case_exchanged c = (refl, refl)

pub returns-clause-static_field_dropped : goal.returns-clause-static_field_dropped
returns-clause-static_field_dropped c = (refl, refl)
