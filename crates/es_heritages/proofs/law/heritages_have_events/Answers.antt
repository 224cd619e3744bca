use Rattle.std.specs.Prelude.{refl}
use Rattle.es_heritages.proofs.law.heritages_have_events.Goals as goal

pub returns-clause-bindings : goal.returns-clause-bindings
returns-clause-bindings c = (refl, refl, refl)

pub returns-clause-caught_names : goal.returns-clause-caught_names
returns-clause-caught_names c = (refl, refl, refl)

pub returns-clause-written_class : goal.returns-clause-written_class
returns-clause-written_class c = (refl, refl, refl)

pub returns-clause-own_name : goal.returns-clause-own_name
returns-clause-own_name c = (refl, refl, refl)

pub returns-clause-shadowed_class : goal.returns-clause-shadowed_class
returns-clause-shadowed_class c = (refl, refl, refl)

pub returns-clause-imports : goal.returns-clause-imports
returns-clause-imports c = (refl, refl, refl)

pub returns-clause-arguments_of_functions : goal.returns-clause-arguments_of_functions
returns-clause-arguments_of_functions c = (refl, refl, refl)

pub returns-clause-written_arguments : goal.returns-clause-written_arguments
returns-clause-written_arguments c = (refl, refl, refl)

pub returns-clause-declared_arguments : goal.returns-clause-declared_arguments
returns-clause-declared_arguments c = (refl, refl, refl)

pub returns-clause-constants : goal.returns-clause-constants
returns-clause-constants c = (refl, refl, refl)

pub returns-clause-targets : goal.returns-clause-targets
returns-clause-targets c = (refl, refl, refl)

pub returns-clause-templates : goal.returns-clause-templates
returns-clause-templates c = (refl, refl, refl)

pub returns-clause-unary : goal.returns-clause-unary
returns-clause-unary c = (refl, refl, refl)

pub returns-clause-sequences : goal.returns-clause-sequences
returns-clause-sequences c = (refl, refl, refl)

pub returns-clause-functions : goal.returns-clause-functions
returns-clause-functions c = (refl, refl, refl)

pub returns-clause-operations : goal.returns-clause-operations
returns-clause-operations c = (refl, refl, refl)

pub returns-clause-members : goal.returns-clause-members
returns-clause-members c = (refl, refl, refl)

pub returns-clause-suspended : goal.returns-clause-suspended
returns-clause-suspended c = (refl, refl, refl)

pub returns-clause-nested_heritages : goal.returns-clause-nested_heritages
returns-clause-nested_heritages c = (refl, refl, refl)

pub returns-clause-keys : goal.returns-clause-keys
returns-clause-keys c = (refl, refl, refl)

pub returns-clause-names_in_heads : goal.returns-clause-names_in_heads
returns-clause-names_in_heads c = (refl, refl, refl)

pub returns-clause-elements : goal.returns-clause-elements
returns-clause-elements c = (refl, refl, refl)

pub returns-clause-removed_fields : goal.returns-clause-removed_fields
returns-clause-removed_fields c = (refl, refl, refl)

pub returns-clause-set_fields : goal.returns-clause-set_fields
returns-clause-set_fields c = (refl, refl, refl)

pub returns-clause-blocks : goal.returns-clause-blocks
returns-clause-blocks c = (refl, refl, refl)

pub returns-clause-functions_in_blocks : goal.returns-clause-functions_in_blocks
returns-clause-functions_in_blocks c = (refl, refl, refl)

pub returns-clause-statements_in_blocks : goal.returns-clause-statements_in_blocks
returns-clause-statements_in_blocks c = (refl, refl, refl)

pub returns-clause-names_in_blocks : goal.returns-clause-names_in_blocks
returns-clause-names_in_blocks c = (refl, refl, refl)
