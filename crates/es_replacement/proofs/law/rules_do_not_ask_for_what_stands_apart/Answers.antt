use Rattle.es_replacement.proofs.ReadingFilled.{unasked_law}
use Rattle.es_replacement.proofs.law.rules_do_not_ask_for_what_stands_apart.Goals as goal

pub returns : goal.returns
returns c = unasked_law
