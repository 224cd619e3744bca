-- A scope that no node of a tree has may be removed from a table that agrees with the tree.
use Rattle.std.proofs.Common.{◌≡◌, refl, sym, ap, ◌∙◌, ℕ, zero, suc, ◌<◌, List, [], ◌∷◌, length, Option, Some, None, arith}
use Rattle.std.specs.Prelude.{option_map, slice_get, slice_index_or, Contains}
use Rattle.std.specs.Option.{option_and_then}
use Rattle.es_base.specs.Carried.{scope_number}
use Rattle.es_base.specs.Tree.{Tree}
use Rattle.es_base.specs.declared.ids.ScopeId.{ScopeId}
use Rattle.es_scopes.specs.Agreement.{Agrees, HasScopeOf, carried}
use Rattle.es_scopes.specs.Entries.{entries_of}
use Rattle.es_scopes.specs.NodeScopes.{NodeScope, scopes_of}
use Rattle.es_scopes.specs.Table.{Table, parent_of, without_scope}
use Rattle.es_scopes.proofs.AgreementLemmas.{agrees-alike}
use Rattle.es_scopes.proofs.AlikeCalls.{removed-alike}
use Rattle.es_scopes_law.proofs.Around.{scope_node, around-program}
use Rattle.es_scopes_law.proofs.Lists.{In, in-at, in-Contains}
use Rattle.es_scopes_law.proofs.Rows.{ScopeOf, scopes_among, get-map}
use Rattle.es_scopes_law.proofs.ScopesAgree.{map-some, some-same}

below-length : {X : Type 0} (x : X) (xs : List X) (k : ℕ) → slice_get xs k ≡ Some x → k < length xs
below-length x [] k e = absurd (cc e)
below-length x (y ∷ xs) zero e = omega arith
below-length x (y ∷ xs) (suc k) e = let l = below-length x xs k e in omega arith

index-is : {X : Type 0} (x : X) (xs : List X) (k : ℕ) → slice_get xs k ≡ Some x → slice_index_or xs k x ≡ x
index-is x [] k e = absurd (cc e)
index-is x (y ∷ xs) zero e = some-same y x e
index-is x (y ∷ xs) (suc k) e = index-is x xs k e

contains-at : {X : Type 0} (xs : List X) (k : ℕ) (x : X) → slice_get xs k ≡ Some x → Contains xs x
contains-at xs k x e = (k, below-length x xs k e, index-is x xs k e)

and-some : {X Y : Type 0} (f : X → Option Y) (o : Option X) (y : Y) → option_and_then f o ≡ Some y → (x : X) × (o ≡ Some x) × (f x ≡ Some y)
and-some f None y e = absurd (cc e)
and-some f (Some x) y e = (x, refl, e)

-- the node around a scope has one
around-has : (t : Tree) (x : NodeScope) (m : ℕ) → In x (scopes_of t) → x.around ≡ Some m → (y : NodeScope) × Contains (scopes_of t) y × (y.node ≡ m)
around-has t x m among around =
    let at = in-at x (scopes_of t) among in
    let shows : ScopeOf → ℕ × Option ℕ = λ y. (y.node, option_and_then (scope_node t) (scope_number y.parent)) in
    let wants : NodeScope → ℕ × Option ℕ = λ y. (y.node, y.around) in
    let told = map-some {Y = ℕ × Option ℕ} shows (slice_get (scopes_among (entries_of t)) at.0) (x.node, x.around)
    (sym (get-map shows (scopes_among (entries_of t)) at.0) ∙ ap (λ l. slice_get l at.0) (around-program t) ∙ get-map wants (scopes_of t) at.0 ∙ ap (option_map wants) at.1) in
    let up = and-some (scope_node t) (scope_number told.0.parent) m (ap (λ (p : ℕ × Option ℕ). p.1) told.2 ∙ around) in
    let row = map-some (λ (y : ScopeOf). y.node) (slice_get (scopes_among (entries_of t)) up.0) m up.2 in
    let there = map-some {Y = ℕ × Option ℕ} wants (slice_get (scopes_of t) up.0) (shows row.0)
    (sym (get-map wants (scopes_of t) up.0) ∙ ap (λ l. slice_get l up.0) (sym (around-program t)) ∙ get-map shows (scopes_among (entries_of t)) up.0 ∙ ap (option_map shows) row.1) in
    (there.0, contains-at (scopes_of t) up.0 there.0 there.1, ap (λ (p : ℕ × Option ℕ). p.0) there.2 ∙ row.2)

pub removed-agrees : (generated : List (List ℕ)) (table : Table) (t : Tree) (s : ScopeId) → Agrees generated table t → (HasScopeOf t s → ⊥) → Agrees generated (without_scope table s) t
removed-agrees generated table t s h none = agrees-alike t table (without_scope table s) (removed-alike t table s none below) generated h
  where
    below : (q : ScopeId) → HasScopeOf t q → parent_of table q ≡ Some s → ⊥
    below q own is =
        let x = own.0 in
        let carries = h.scopes x own.1 in
        let same : carries.0 ≡ q = ap (λ (n : ℕ). record { 0 = n }) (some-same carries.0.0 q.0 (sym carries.1.carries ∙ own.2)) in
        let up = and-some (carried t) x.around s.0 (sym carries.1.parent ∙ ap (λ (z : ScopeId). scope_number (parent_of table z)) same ∙ ap scope_number is) in
        let y = around-has t x up.0 (in-Contains x (scopes_of t) own.1) up.1 in
        none (y.0, y.1, ap (carried t) y.2 ∙ up.2)
