use Rattle.std.specs.Prelude.{refl}
use Rattle.es_rows.proofs.Computed.{lowered}
use Rattle.es_rows.proofs.law.static_elements_keep_their_meaning.Goals as goal

pub returns-clause-set_static_name : goal.returns-clause-set_static_name
returns-clause-set_static_name c = (refl, refl, lowered refl, refl)

pub returns-clause-static_own_name : goal.returns-clause-static_own_name
returns-clause-static_own_name c = (refl, refl, lowered refl, refl)

pub returns-clause-static_key_and_block : goal.returns-clause-static_key_and_block
returns-clause-static_key_and_block c = (refl, refl, lowered refl, refl)

pub returns-clause-static_of_expression : goal.returns-clause-static_of_expression
returns-clause-static_of_expression c = (refl, refl, lowered refl, refl)

pub returns-clause-block_of_expression : goal.returns-clause-block_of_expression
returns-clause-block_of_expression c = (refl, refl, lowered refl, refl)

pub returns-clause-static_this_and_target : goal.returns-clause-static_this_and_target
returns-clause-static_this_and_target c = (refl, refl, lowered refl, refl)

pub returns-clause-kept_block : goal.returns-clause-kept_block
returns-clause-kept_block c = (refl, refl, lowered refl, refl)

pub returns-clause-block_with_heritage : goal.returns-clause-block_with_heritage
returns-clause-block_with_heritage c = (lowered refl, refl)

pub returns-clause-loose_private_static_field : goal.returns-clause-loose_private_static_field
returns-clause-loose_private_static_field c = (refl, refl, lowered refl, refl)

pub returns-clause-block_of_statements : goal.returns-clause-block_of_statements
returns-clause-block_of_statements c = (refl, refl, lowered refl, refl)

pub returns-clause-deleted_this : goal.returns-clause-deleted_this
returns-clause-deleted_this c = (refl, refl, lowered refl, refl)

pub returns-clause-nested_static_classes : goal.returns-clause-nested_static_classes
returns-clause-nested_static_classes c = (refl, refl, lowered refl, refl)

pub returns-clause-static_field_in_a_parameter : goal.returns-clause-static_field_in_a_parameter
returns-clause-static_field_in_a_parameter c = (refl, refl, lowered refl, refl)

pub returns-clause-static_field_in_a_case : goal.returns-clause-static_field_in_a_case
returns-clause-static_field_in_a_case c = (refl, refl, lowered refl, refl)
