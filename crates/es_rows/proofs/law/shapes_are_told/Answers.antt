use Rattle.std.specs.Prelude.{refl}
use Rattle.es_rows.proofs.law.shapes_are_told.Goals as goal

pub returns-clause-block_beside_a_field_outside : goal.returns-clause-block_beside_a_field_outside
returns-clause-block_beside_a_field_outside c = (refl, refl)

pub returns-clause-caught_key : goal.returns-clause-caught_key
returns-clause-caught_key c = (refl, refl)

pub returns-clause-changing_key_before_a_regular_expression : goal.returns-clause-changing_key_before_a_regular_expression
returns-clause-changing_key_before_a_regular_expression c = (refl, refl)

pub returns-clause-changing_key_behind_a_block : goal.returns-clause-changing_key_behind_a_block
returns-clause-changing_key_behind_a_block c = (refl, refl)

pub returns-clause-imported_key : goal.returns-clause-imported_key
returns-clause-imported_key c = (refl, refl)

pub returns-clause-imported_key_behind_a_block : goal.returns-clause-imported_key_behind_a_block
returns-clause-imported_key_behind_a_block c = (refl, refl)

pub returns-clause-imported_key_of_a_method : goal.returns-clause-imported_key_of_a_method
returns-clause-imported_key_of_a_method c = (refl, refl)

pub returns-clause-imported_object : goal.returns-clause-imported_object
returns-clause-imported_object c = (refl, refl)

pub returns-clause-key_that_a_branch_gives : goal.returns-clause-key_that_a_branch_gives
returns-clause-key_that_a_branch_gives c = (refl, refl)

pub returns-clause-key_that_a_catch_gives : goal.returns-clause-key_that_a_catch_gives
returns-clause-key_that_a_catch_gives c = (refl, refl)

pub returns-clause-key_that_a_function_in_a_block_gives : goal.returns-clause-key_that_a_function_in_a_block_gives
returns-clause-key_that_a_function_in_a_block_gives c = (refl, refl)

pub returns-clause-key_that_is_a_parameter_arguments : goal.returns-clause-key_that_is_a_parameter_arguments
returns-clause-key_that_is_a_parameter_arguments c = (refl, refl)

pub returns-clause-key_that_is_arguments : goal.returns-clause-key_that_is_arguments
returns-clause-key_that_is_arguments c = (refl, refl)

pub returns-clause-loose_member_read_once : goal.returns-clause-loose_member_read_once
returns-clause-loose_member_read_once c = (refl, refl)

pub returns-clause-regular_expression_before_a_heritage : goal.returns-clause-regular_expression_before_a_heritage
returns-clause-regular_expression_before_a_heritage c = (refl, refl)

pub returns-clause-super_key_that_stays : goal.returns-clause-super_key_that_stays
returns-clause-super_key_that_stays c = (refl, refl)

pub returns-clause-suspended_class_written : goal.returns-clause-suspended_class_written
returns-clause-suspended_class_written c = (refl, refl)
