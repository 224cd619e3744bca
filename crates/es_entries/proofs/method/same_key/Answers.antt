use Rattle.es_evaluator.proofs.SameValues.{same_value_is}
use Rattle.es_entries.proofs.method.same_key.Goals as goal

pub returns : goal.returns
returns c = same_value_is c.is_same.result c.args.key.now c.args.other.now c.is_same.ensures
