use Rattle.std.specs.Prelude.{refl}
use Rattle.es_rows.proofs.Computed.{lowered}
use Rattle.es_rows.proofs.law.instance_fields_keep_their_meaning.Goals as goal

pub returns-clause-instance_field : goal.returns-clause-instance_field
returns-clause-instance_field c = (refl, refl, lowered refl, refl)

pub returns-clause-set_field : goal.returns-clause-set_field
returns-clause-set_field c = (refl, refl, lowered refl, refl)

pub returns-clause-set_this_key : goal.returns-clause-set_this_key
returns-clause-set_this_key c = (refl, refl, lowered refl, refl)

pub returns-clause-clashing_parameter : goal.returns-clause-clashing_parameter
returns-clause-clashing_parameter c = (refl, refl, lowered refl, refl)

pub returns-clause-parameter_with_default : goal.returns-clause-parameter_with_default
returns-clause-parameter_with_default c = (refl, refl, lowered refl, refl)

pub returns-clause-loose_private_field : goal.returns-clause-loose_private_field
returns-clause-loose_private_field c = (refl, refl, lowered refl, refl)

pub returns-clause-two_fields : goal.returns-clause-two_fields
returns-clause-two_fields c = (refl, refl, lowered refl, refl)

pub returns-clause-empty_class : goal.returns-clause-empty_class
returns-clause-empty_class c = (refl, refl, lowered refl, refl)

pub returns-clause-two_keys : goal.returns-clause-two_keys
returns-clause-two_keys c = (refl, refl, lowered refl, refl)

pub returns-clause-removed_field : goal.returns-clause-removed_field
returns-clause-removed_field c = (refl, refl, lowered refl, refl)

pub returns-clause-key_of_expression : goal.returns-clause-key_of_expression
returns-clause-key_of_expression c = (refl, refl, lowered refl, refl)

pub returns-clause-target_in_field : goal.returns-clause-target_in_field
returns-clause-target_in_field c = (refl, refl, lowered refl, refl)

pub returns-clause-written_class_name : goal.returns-clause-written_class_name
returns-clause-written_class_name c = (lowered refl, refl)

pub returns-clause-assumed_set_field : goal.returns-clause-assumed_set_field
returns-clause-assumed_set_field c = (refl, refl, lowered refl, refl)

pub returns-clause-loose_private_writes : goal.returns-clause-loose_private_writes
returns-clause-loose_private_writes c = (refl, refl, lowered refl, refl)

pub returns-clause-key_in_a_loop : goal.returns-clause-key_in_a_loop
returns-clause-key_in_a_loop c = (refl, refl, lowered refl, refl)

pub returns-clause-arrow_beside_a_pattern : goal.returns-clause-arrow_beside_a_pattern
returns-clause-arrow_beside_a_pattern c = (refl, refl, lowered refl, refl)

pub returns-clause-arrow_in_a_parameter : goal.returns-clause-arrow_in_a_parameter
returns-clause-arrow_in_a_parameter c = (refl, refl, lowered refl, refl)

pub returns-clause-imported_key_that_stays : goal.returns-clause-imported_key_that_stays
returns-clause-imported_key_that_stays c = (refl, refl, lowered refl, refl)

pub returns-clause-arrow_behind_parameters : goal.returns-clause-arrow_behind_parameters
returns-clause-arrow_behind_parameters c = (refl, refl, lowered refl, refl)
