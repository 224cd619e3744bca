use Rattle.es_duplicates.proofs.Mutated.{is_mutated-decides, same_test}
use Rattle.es_duplicates.proofs.repetition.is_mutated.Goals as goal

pub returns : goal.returns
returns c = same_test c.symbol_is_mutated.ensures (is_mutated-decides c.args.scoping.now c.args.symbol)
