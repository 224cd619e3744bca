use Rattle.es_replacement.proofs.Apart.{apart_law}
use Rattle.es_replacement.proofs.law.what_stands_apart_stands_for_an_expression.Goals as goal

pub returns : goal.returns
returns c = apart_law
