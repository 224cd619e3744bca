use Rattle.std.specs.Prelude.{refl}
use Rattle.es_rows.proofs.Computed.{lowered}
use Rattle.es_rows.proofs.law.derived_classes_keep_their_meaning.Goals as goal

pub returns-clause-super_in_branches : goal.returns-clause-super_in_branches
returns-clause-super_in_branches c = (refl, refl, lowered refl, refl)

pub returns-clause-super_in_parameters : goal.returns-clause-super_in_parameters
returns-clause-super_in_parameters c = (refl, refl, lowered refl, refl)

pub returns-clause-static_super_member : goal.returns-clause-static_super_member
returns-clause-static_super_member c = (refl, refl, lowered refl, refl)

pub returns-clause-derived_class : goal.returns-clause-derived_class
returns-clause-derived_class c = (refl, refl, lowered refl, refl)

pub returns-clause-two_supers : goal.returns-clause-two_supers
returns-clause-two_supers c = (refl, refl, lowered refl, refl)

pub returns-clause-no_super : goal.returns-clause-no_super
returns-clause-no_super c = (refl, refl, lowered refl, refl)

pub returns-clause-super_in_parameters_of_expression : goal.returns-clause-super_in_parameters_of_expression
returns-clause-super_in_parameters_of_expression c = (refl, refl, lowered refl, refl)

pub returns-clause-names_taken : goal.returns-clause-names_taken
returns-clause-names_taken c = (refl, refl, lowered refl, refl)

pub returns-clause-super_member_writes : goal.returns-clause-super_member_writes
returns-clause-super_member_writes c = (refl, refl, lowered refl, refl)
