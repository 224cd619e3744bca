use Rattle.es_duplicates.proofs.Mutated.{is_mutated-decides}
use Rattle.es_duplicates.proofs.law.mutated_symbols_are_those_of_the_table.Goals as goal

pub returns : goal.returns
returns c = is_mutated-decides
