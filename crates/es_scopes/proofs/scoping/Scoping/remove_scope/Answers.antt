use Rattle.std.proofs.Common.{◌≡◌, ◌∙◌, ◌++◌, ◌<◌, refl, ap, sym, subst, length, map, set, take, drop, arith, vec_len, None, Option, List}
use Rattle.std.specs.Prelude.{option_map, IsSome, is_some}
use Rattle.std.specs.Option.{option_and_then}
use Rattle.std.proofs.lemmas.List.{length-map}
use Rattle.es_scopes.specs.Table.{Table, IsTable, scope_at, lifted, names_at, parent_of, without_scope}
use Rattle.es_scopes.specs.declared.table.Scope.{Scope}
use Rattle.es_scopes.specs.contracts.scoping.Scoping.{the_view}
use Rattle.es_scopes.proofs.RowLemmas.{set_constant, written_back}
use Rattle.es_scopes.proofs.TableLemmas.{IsTable-without}
use Rattle.es_scopes.proofs.WrittenLemmas.{scope-within}
use Rattle.es_scopes.proofs.scoping.Scoping.remove_scope.Goals as goal

scopes_are : (c : goal.Joined-index_mut) →
    set (take (vec_len c.self.inside.scopes) (c.lift_all.new.scopes ++ drop (length c.lift_all.new.scopes) c.self.inside.scopes.items)) c.args.scope_id.0 None
    ≡ (without_scope (the_view c.self.inside) c.args.scope_id).scopes
scopes_are c =
    let t : Table = the_view c.self.inside in
    let s = c.args.scope_id in
    let row = ap (λ t. scope_at t s) c.self.view_is ∙ c.scope.ensures.row in
    let up : c.scope.result.now.parent ≡ parent_of t s = sym (ap (λ o. option_and_then (λ p. p) (option_map (λ x. x.parent) o)) row) in
    let size : length c.lift_all.new.scopes ≡ vec_len c.self.inside.scopes = omega (arith, c.lift_all.auto.scopes, c.deref_mut.ensures.len) in
    let lift_is : c.lift_all.new.scopes ≡ map (option_map (lifted s (parent_of t s))) t.scopes =
    c.lift_all.ensures ∙ (λ i. map (option_map (lifted s (up i))) (c.deref_mut.ensures.value i)) in
    let within : s.0 < length (map (option_map (lifted s (parent_of t s))) t.scopes) = simp length-map (scope-within t t refl s (ap is_some row)) in
    ap (λ (l : List (Option Scope)). set l s.0 None) (written_back (vec_len c.self.inside.scopes) c.lift_all.new.scopes c.self.inside.scopes.items size ∙ lift_is)
    ∙ set_constant None s.0 (map (option_map (lifted s (parent_of t s))) t.scopes) within

pub invariant_of-self : goal.invariant_of-self
invariant_of-self c =
    let t : Table = the_view c.self.inside in
    let s = c.args.scope_id in
    subst (λ (l : List (Option Scope)). IsTable (record t { scopes = l })) (sym (scopes_are c))
    (IsTable-without t s c.self.invariant (subst (λ t. IsSome (parent_of t s)) (sym c.self.view_is) c.requires.below) (ap (λ t. names_at t s) c.self.view_is ∙ c.requires.empty))

pub returns : goal.returns
returns c =
    let t : Table = the_view c.self.inside in
    ap (λ (l : List (Option Scope)). record t { scopes = l }) (scopes_are c) ∙ ap (λ t. without_scope t c.args.scope_id) c.self.view_is
