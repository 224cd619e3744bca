use Rattle.es_replacement.proofs.Examples.{private_law, private_has_meaning}
use Rattle.es_replacement.proofs.law.a_private_field_has_one_that_stands_for_it.Goals as goal

pub returns : goal.returns
returns c = record { stands = private_law; meaning = private_has_meaning }
