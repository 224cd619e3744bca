use Rattle.es_steps.proofs.Renumbering.{renumbering_law}
use Rattle.es_steps.proofs.law.renumbering_keeps_meaning.Goals as goal

pub returns : goal.returns
returns c = renumbering_law
