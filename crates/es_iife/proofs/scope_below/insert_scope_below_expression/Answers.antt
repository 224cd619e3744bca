use Rattle.std.proofs.Common.{◌≡◌, ◌∙◌, ap, sym, subst, List, Some, All, length}
use Rattle.es_base.specs.declared.ids.ScopeId.{ScopeId}
use Rattle.es_iife.specs.FirstScopes.{first_scopes}
use Rattle.es_iife.specs.ScopeBelow.{CanStandBelow, flags_below, with_parents}
use Rattle.es_iife.proofs.Below.{new_apart}
use Rattle.es_scopes.proofs.TreeLemmas.{same_scope}
use Rattle.es_scopes.specs.Table.{Table, with_new_scope}
use Rattle.es_iife.proofs.scope_below.insert_scope_below_expression.Goals as goal

pub put_below-requires-clause-below : goal.put_below-requires-clause-below
put_below-requires-clause-below c =
    let same : c.as_slice.result.now ≡ first_scopes c.args.expression.now = c.as_slice.ensures ∙ c.in_ok-scopes.ensures in
    subst (λ (l : List ScopeId). All (CanStandBelow c.add_scope.new.self c.in_ok-below.below) l) (sym same)
    (λ k d within. new_apart c.args.scoping.now c.add_scope.new.self c.args.around c.in_ok-below.below _ c.flags_below-flags.result c.in_ok-below.ensures.ok c.in_ok-below.ensures.number (c.requires.below k d within))

pub returns-clause-table : goal.returns-clause-table
returns-clause-table c =
    let old : Table = c.args.scoping.now in
    let below : ScopeId = c.in_ok-below.below in
    let scopes : List ScopeId = first_scopes c.args.expression.now in
    c.put_below.ensures
    ∙ ap (λ l. with_parents below l c.add_scope.new.self) (c.as_slice.ensures ∙ c.in_ok-scopes.ensures)
    ∙ ap (with_parents below scopes) (c.in_ok-below.ensures.ok ∙ ap (with_new_scope old (Some c.args.around)) c.flags_below-flags.ensures)
    ∙ ap (λ p. with_parents p scopes (with_new_scope old (Some c.args.around) (flags_below old c.args.around c.args.flags))) (same_scope below (record { 0 = length old.scopes }) c.in_ok-below.ensures.number)
