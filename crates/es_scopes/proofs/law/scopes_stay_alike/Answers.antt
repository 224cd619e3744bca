use Rattle.es_scopes.proofs.AlikeCalls.{removed-alike}
use Rattle.es_scopes.proofs.AlikeLemmas.{scope_flags-alike, new_scope-alike, parent-alike, binding-alike}
use Rattle.es_scopes.proofs.law.scopes_stay_alike.Goals as goal

pub returns-clause-flags : goal.returns-clause-flags
returns-clause-flags c = scope_flags-alike

pub returns-clause-added : goal.returns-clause-added
returns-clause-added c = new_scope-alike

pub returns-clause-parent : goal.returns-clause-parent
returns-clause-parent c = parent-alike

pub returns-clause-name : goal.returns-clause-name
returns-clause-name c = binding-alike

pub returns-clause-removed : goal.returns-clause-removed
returns-clause-removed c = removed-alike
