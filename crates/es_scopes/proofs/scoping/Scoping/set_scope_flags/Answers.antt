use Rattle.std.proofs.Common.{refl}
use Rattle.es_scopes.specs.Table.{scope_flagged}
use Rattle.es_scopes.specs.contracts.scoping.Scoping.{the_view}
use Rattle.es_scopes.proofs.TableLemmas.{IsTable-scope_flags}
use Rattle.es_scopes.proofs.WrittenLemmas.{scope-holds, scope-written}
use Rattle.es_scopes.proofs.scoping.Scoping.set_scope_flags.Goals as goal

pub invariant_of-self : goal.invariant_of-self
invariant_of-self c =
    scope-holds (the_view c.self.inside) c.args.self.now c.self.view_is c.args.scope_id c.requires c.index_mut.result.now c.index_mut.ensures.value c.in-Some.scope _ (scope_flagged c.args.flags) c.in-Some.is refl
    (IsTable-scope_flags (the_view c.self.inside) c.self.invariant c.args.scope_id.0 c.args.flags)

pub returns : goal.returns
returns c =
    scope-written (the_view c.self.inside) c.args.self.now c.self.view_is c.args.scope_id c.requires c.index_mut.result.now c.index_mut.ensures.value c.in-Some.scope _ (scope_flagged c.args.flags) c.in-Some.is refl
