use Rattle.es_replacement.proofs.Examples.{logical_law, logical_has_meaning}
use Rattle.es_replacement.proofs.law.a_logical_assignment_has_one_that_stands_for_it.Goals as goal

pub returns : goal.returns
returns c = record { stands = logical_law; meaning = logical_has_meaning }
