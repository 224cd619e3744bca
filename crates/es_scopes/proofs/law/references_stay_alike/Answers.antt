use Rattle.es_scopes.proofs.AlikeCalls.{with_listed-alike, without_listed-alike, created-alike}
use Rattle.es_scopes.proofs.AlikeLemmas.{reference_flags-alike, target-alike, new_reference-alike}
use Rattle.es_scopes.proofs.law.references_stay_alike.Goals as goal

pub returns-clause-flags : goal.returns-clause-flags
returns-clause-flags c = reference_flags-alike

pub returns-clause-target : goal.returns-clause-target
returns-clause-target c = target-alike

pub returns-clause-added : goal.returns-clause-added
returns-clause-added c = new_reference-alike

pub returns-clause-listed : goal.returns-clause-listed
returns-clause-listed c = with_listed-alike

pub returns-clause-unlisted : goal.returns-clause-unlisted
returns-clause-unlisted c = without_listed-alike

pub returns-clause-created : goal.returns-clause-created
returns-clause-created c = created-alike
