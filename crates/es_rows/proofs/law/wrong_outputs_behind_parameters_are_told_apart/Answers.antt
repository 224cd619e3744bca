use Rattle.std.specs.Prelude.{refl}
use Rattle.es_rows.proofs.law.wrong_outputs_behind_parameters_are_told_apart.Goals as goal

pub returns-clause-another_literal_behind_parameters : goal.returns-clause-another_literal_behind_parameters
returns-clause-another_literal_behind_parameters c = (refl, refl)

pub returns-clause-field_behind_parameters_doubled : goal.returns-clause-field_behind_parameters_doubled
returns-clause-field_behind_parameters_doubled c = (refl, refl)

pub returns-clause-field_behind_parameters_dropped : goal.returns-clause-field_behind_parameters_dropped
returns-clause-field_behind_parameters_dropped c = (refl, refl)

pub returns-clause-fields_behind_parameters_exchanged : goal.returns-clause-fields_behind_parameters_exchanged
returns-clause-fields_behind_parameters_exchanged c = (refl, refl)
