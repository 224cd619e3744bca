use Rattle.es_replacement.proofs.Replaced.{standing_law}
use Rattle.es_replacement.proofs.law.a_code_may_replace_itself.Goals as goal

pub returns : goal.returns
returns c = standing_law
