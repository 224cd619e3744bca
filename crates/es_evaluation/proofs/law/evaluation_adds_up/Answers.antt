use Rattle.es_evaluation.proofs.Opened.{evaluated_follows}
use Rattle.es_evaluation.proofs.law.evaluation_adds_up.Goals as goal

pub returns : goal.returns
returns c ds code = evaluated_follows ds code
