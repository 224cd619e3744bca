use Rattle.es_replacement.proofs.Replaced.{replacement_law}
use Rattle.es_replacement.proofs.law.what_stands_for_an_expression_keeps_meaning.Goals as goal

pub returns : goal.returns
returns c = replacement_law
