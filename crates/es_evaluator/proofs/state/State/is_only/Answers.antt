use Rattle.es_evaluation.specs.Direct.{is_none}
use Rattle.es_evaluator.specs.Running.{state_of}
use Rattle.es_evaluator.proofs.SameValues.{only_one}
use Rattle.es_evaluator.proofs.state.State.is_only.Goals as goal

pub returns-then-is_empty : goal.returns-then-is_empty
returns-then-is_empty c = only_one c.is_empty.result c.is_same.result (is_none (state_of c.args.self.now).tokens) c.args.value.now c.args.found.now c.is_empty.ensures c.if-is_empty.true c.is_same.ensures
