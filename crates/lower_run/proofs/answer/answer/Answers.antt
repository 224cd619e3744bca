use Rattle.lower_edge.proofs.Counted.{few-values}
use Rattle.lower_run.proofs.answer.answer.Goals as goal

pub of_value-requires : goal.of_value-requires
of_value-requires g c = few-values _ _ c.requires c.in-Ok.ensures.ok.1
