use Rattle.std.proofs.Common.{sym, subst}
use Rattle.std.specs.Prelude.{All}
use Rattle.es_scopes.specs.Table.{HasScope, IsTable, scope_ancestors}
use Rattle.es_scopes.proofs.NameLemmas.{All-from, ancestors-there}
use Rattle.es_scopes.proofs.scoping.Scoping.scope_ancestors.Goals as goal

pub returns-clause-held : goal.returns-clause-held
returns-clause-held c =
    let now = c.args.self.now in
    subst (All (HasScope now)) (sym c.new.ensures)
    (All-from (HasScope now) (scope_ancestors now c.args.scope_id) (ancestors-there now (subst IsTable c.self.view_is c.self.invariant) c.args.scope_id c.requires))
