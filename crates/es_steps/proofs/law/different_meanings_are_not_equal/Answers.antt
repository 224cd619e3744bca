use Rattle.es_steps.proofs.Reflexive.{differ}
use Rattle.es_steps.proofs.law.different_meanings_are_not_equal.Goals as goal

pub returns : goal.returns
returns c = differ
