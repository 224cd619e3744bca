use Rattle.lower_es2022.proofs.Reasons.{proved_complete}
use Rattle.lower_es2022.proofs.run.run.Goals as goal

pub returns-clause-complete : goal.returns-clause-complete
returns-clause-complete g c = proved_complete _ _ _ _ _ _ _ c.run_by.ensures.complete
