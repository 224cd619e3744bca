use Rattle.es_replacement.proofs.Replaced.{hole_law}
use Rattle.es_replacement.proofs.law.what_may_replace_may_in_every_hole.Goals as goal

pub returns : goal.returns
returns c = hole_law
