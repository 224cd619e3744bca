use Rattle.lower_run.proofs.Causes.{cause-complete, cause-done}
use Rattle.lower_run.proofs.run.run_by.Goals as goal

pub returns-clause-done : goal.returns-clause-done
returns-clause-done g c = cause-done _ _ _ _ _ _ _ _ _ _ _ c.answer_source.ensures.cause

pub returns-clause-complete : goal.returns-clause-complete
returns-clause-complete g c = cause-complete _ _ _ _ _ _ _ _ _ _ _ c.answer_source.ensures.cause
