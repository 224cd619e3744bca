use Rattle.es_replacement.proofs.Replaced.{meaning_law}
use Rattle.es_replacement.proofs.law.replacing_keeps_meaning.Goals as goal

pub returns : goal.returns
returns c = meaning_law
