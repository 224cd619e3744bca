use Rattle.es_lowered.proofs.Clauses.{clauses_law}
use Rattle.es_lowered.proofs.law.renumbering_keeps_what_is_owed.Goals as goal

pub returns : goal.returns
returns c = clauses_law
