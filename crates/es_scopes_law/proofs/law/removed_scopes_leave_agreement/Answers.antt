use Rattle.es_scopes_law.proofs.Removed.{removed-agrees}
use Rattle.es_scopes_law.proofs.law.removed_scopes_leave_agreement.Goals as goal

pub returns : goal.returns
returns c = removed-agrees
