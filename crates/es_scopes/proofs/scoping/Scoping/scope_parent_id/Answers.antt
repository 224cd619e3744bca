use Rattle.es_scopes.proofs.NameLemmas.{parent-there, ancestors-parent}
use Rattle.es_scopes.proofs.scoping.Scoping.scope_parent_id.Goals as goal

pub returns-clause-around : goal.returns-clause-around
returns-clause-around c = parent-there c.args.self.now c.scope.ensures.table c.args.scope_id c.scope.result.now c.scope.ensures.row

pub returns-clause-ancestors : goal.returns-clause-ancestors
returns-clause-ancestors c = ancestors-parent c.args.self.now c.scope.ensures.table c.args.scope_id c.scope.result.now c.scope.ensures.row
