use Rattle.check_run.proofs.Causes.{cause-agreed, cause-complete}
use Rattle.check_run.proofs.run.check_run.Goals as goal

pub returns-clause-agreed : goal.returns-clause-agreed
returns-clause-agreed g c = cause-agreed _ _ _ _ _ _ _ _ _ c.answer_source.ensures.cause

pub returns-clause-complete : goal.returns-clause-complete
returns-clause-complete g c = cause-complete _ _ _ _ _ _ _ _ _ c.answer_source.ensures.cause
