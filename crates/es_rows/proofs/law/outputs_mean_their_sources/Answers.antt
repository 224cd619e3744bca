use Rattle.std.specs.Prelude.{refl}
use Rattle.es_rows.proofs.law.outputs_mean_their_sources.Goals as goal

pub returns-clause-branch_of_a_key : goal.returns-clause-branch_of_a_key
returns-clause-branch_of_a_key c = (refl, refl)

pub returns-clause-class_in_a_case : goal.returns-clause-class_in_a_case
returns-clause-class_in_a_case c = (refl, refl)

pub returns-clause-function_named_by_an_element : goal.returns-clause-function_named_by_an_element
returns-clause-function_named_by_an_element c = (refl, refl)

pub returns-clause-key_of_a_binding_for_a_name : goal.returns-clause-key_of_a_binding_for_a_name
returns-clause-key_of_a_binding_for_a_name c = (refl, refl)

pub returns-clause-private_name_beside_a_name : goal.returns-clause-private_name_beside_a_name
returns-clause-private_name_beside_a_name c = (refl, refl)
