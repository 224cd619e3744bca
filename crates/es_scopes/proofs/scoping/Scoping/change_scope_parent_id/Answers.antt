use Rattle.std.proofs.Common.{refl, sym, subst}
use Rattle.es_base.specs.declared.ids.ScopeId.{ScopeId}
use Rattle.es_scopes.specs.Table.{HasScope, IsWithin, below}
use Rattle.es_scopes.specs.contracts.scoping.Scoping.{the_view}
use Rattle.es_scopes.proofs.TableLemmas.{IsTable-moved}
use Rattle.es_scopes.proofs.WrittenLemmas.{scope-holds, scope-written}
use Rattle.es_scopes.proofs.scoping.Scoping.change_scope_parent_id.Goals as goal

pub invariant_of-self : goal.invariant_of-self
invariant_of-self c =
    let before = λ (q : ScopeId) (there : HasScope c.args.self.now q). subst (λ t. HasScope t q) (sym c.self.view_is) there in
    scope-holds (the_view c.self.inside) c.args.self.now c.self.view_is c.args.scope_id c.requires.there c.index_mut.result.now c.index_mut.ensures.value c.in-Some.scope _ (below c.args.parent) c.in-Some.is refl
    (IsTable-moved (the_view c.self.inside) c.args.scope_id c.args.parent c.self.invariant (before c.args.scope_id c.requires.there) (λ q e. before q (c.requires.around q e))
    (λ q e w. c.requires.outside q e (subst (λ t. IsWithin t c.args.scope_id q) c.self.view_is w)))

pub returns : goal.returns
returns c =
    scope-written (the_view c.self.inside) c.args.self.now c.self.view_is c.args.scope_id c.requires.there c.index_mut.result.now c.index_mut.ensures.value c.in-Some.scope _ (below c.args.parent) c.in-Some.is refl
