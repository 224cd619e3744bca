-- After which calls that remove a scope or change a list a table is as it was for a tree.
use Rattle.std.proofs.Common.{◌≡◌, ◌≢◌, refl, sym, ap, subst, ◌∙◌, ℕ, List, [], length, nat_eq, Bool, true, false, true≢false, cond, ◌&&◌, ◌||◌, not, Option, Some, None, ◌⊎◌, inl, inr, MatchOption, ◌↔◌}
use Rattle.std.specs.Prelude.{option_map, slice_get, is_some, unwrap_or}
use Rattle.std.specs.Cmp.{unsigned_tied}
use Rattle.std.specs.FinSet as set
use Rattle.std.specs.Option.{option_and_then}
use Rattle.std.specs.Ordering.{nat_cmp, eq_by_cmp}
use Rattle.std.proofs.lemmas.Bool.Decides.{Decides-eqb}
use Rattle.std.proofs.lemmas.Cmp.{nat_cmp_total}
use Rattle.es_base.specs.Tree.{Tree}
use Rattle.es_base.specs.declared.ids.ReferenceId.{ReferenceId}
use Rattle.es_base.specs.declared.ids.ScopeId.{ScopeId}
use Rattle.es_base.specs.declared.ids.SymbolId.{SymbolId}
use Rattle.es_scopes.specs.Agreement.{AreAlike, HasScopeOf, HasSymbolOf}
use Rattle.es_scopes.specs.References.{writes, HoldsWrite}
use Rattle.es_scopes.specs.Table.{Table, IsTable, IsMutated, symbol_at, reference_at, row_at, parent_of, changed_at, is_scope, lifted, listing, unlisting, with_listed, without_listed, without_scope, with_new_reference, with_created_reference}
use Rattle.es_scopes.specs.declared.flags.ReferenceFlags.{ReferenceFlags}
use Rattle.es_scopes.specs.declared.table.Reference.{Reference}
use Rattle.es_scopes.specs.declared.table.Scope.{Scope}
use Rattle.es_scopes.specs.declared.table.Symbol.{Symbol}
use Rattle.es_scopes.proofs.AlikeLemmas.{alike-trans, alike-scopes, apart, seen, new_reference-alike}
use Rattle.es_scopes.proofs.RowLemmas.{same_or_other, is_some-option_map, slice_get-changed_at_same, slice_get-changed_at_other, slice_get-push_last}
use Rattle.es_scopes.proofs.TableLemmas.{without-elsewhere}

-- ---- a scope removed

seen-lifted : (s : ScopeId) (up : Option ScopeId) (o : Option Scope) → (option_and_then (λ p. p) (option_map (λ x. x.parent) o) ≡ Some s → ⊥) → seen (option_map (lifted s up) o) ≡ seen o
seen-lifted s up None none = refl
seen-lifted s up (Some x) none = by x.parent refl
  where
    by : (p : Option ScopeId) → x.parent ≡ p → seen (Some (record x { parent = cond (is_scope s x.parent) up x.parent })) ≡ seen (Some x)
    by None e = ap (λ (q : Option ScopeId). Some (cond (is_scope s q) up x.parent, x.names)) e
    by (Some r) e = elim (nat_eq s.0 r.0) as (λ b. nat_eq s.0 r.0 ≡ b → seen (Some (record x { parent = cond (is_scope s x.parent) up x.parent })) ≡ seen (Some x)) [
      | true ↦ λ t. absurd (none (e ∙ ap (λ (n : ℕ). Some (record { 0 = n })) (sym ((Decides-eqb s.0 r.0).0 t))))
      | false ↦ λ f. ap (λ b. Some (cond b up x.parent, x.names)) (ap (is_scope s) e ∙ f)
    ] refl

pub removed-alike : (t : Tree) (table : Table) (s : ScopeId) → (HasScopeOf t s → ⊥) → ((q : ScopeId) → HasScopeOf t q → parent_of table q ≡ Some s → ⊥) → AreAlike t table (without_scope table s)
removed-alike t table s none below = alike-scopes t table _ (λ q own was.
    ap seen (without-elsewhere table.scopes s (parent_of table s) q.0 (apart t s q none own))
    ∙ seen-lifted s (parent_of table s) (row_at table.scopes q.0) (below q own))

-- ---- lists

abbrev Mutated : List Reference → Option Symbol → Type 0
Mutated references o = MatchOption o ⊥ (λ x. (x.is_marked ≡ true) ⊎ HoldsWrite x.references references)

module _ (t : Tree) (table : Table) (y : SymbolId) (f : Symbol → Symbol) (name : (x : Symbol) → (f x).name ≡ x.name) (same : HasSymbolOf t y → Mutated table.references (option_map f (symbol_at table y)) ↔ Mutated table.references (symbol_at table y)) where
  abbrev after : Table
  after = record table { symbols = changed_at f y.0 table.symbols }

  name-of : (o : Option Symbol) → unwrap_or (option_map (λ x. x.name) (option_map f o)) [] ≡ unwrap_or (option_map (λ x. x.name) o) []
  name-of None = refl
  name-of (Some x) = name x

  row : (z : SymbolId) → (z.0 ≡ y.0) ⊎ (z.0 ≢ y.0) → (symbol_at after z ≡ option_map f (symbol_at table z)) ⊎ (symbol_at after z ≡ symbol_at table z)
  row z (inl e) = inl (ap (slice_get (changed_at f y.0 table.symbols)) e ∙ slice_get-changed_at_same f y.0 table.symbols ∙ ap (λ (n : ℕ). option_map f (slice_get table.symbols n)) (sym e))
  row z (inr other) = inr (slice_get-changed_at_other f y.0 z.0 table.symbols other)

  mutated-as : (z : SymbolId) → HasSymbolOf t z → (z.0 ≡ y.0) ⊎ (z.0 ≢ y.0) → IsMutated after z ↔ IsMutated table z
  mutated-as z own (inl e) =
      let it : z ≡ y = ap (λ (n : ℕ). record { 0 = n }) e in
      let here = same (subst (HasSymbolOf t) it own) in
      let at : symbol_at after y ≡ option_map f (symbol_at table y) = slice_get-changed_at_same f y.0 table.symbols in
      subst (λ (w : SymbolId). IsMutated after w ↔ IsMutated table w) (sym it) (subst (λ (o : Option Symbol). Mutated table.references o ↔ Mutated table.references (symbol_at table y)) (sym at) here)
  mutated-as z own (inr other) = subst (λ (o : Option Symbol). Mutated table.references o ↔ Mutated table.references (symbol_at table z)) (sym (slice_get-changed_at_other f y.0 z.0 table.symbols other)) (λ m. m, λ m. m)

  listed-alike : AreAlike t table after
  listed-alike = record {
    there = λ s own was. was;
    parent = λ s own was. refl;
    names = λ s own was x. refl;
    references = λ k own was. was;
    targets = λ k own was. refl;
    symbols = λ z own was. elim (row z (same_or_other z.0 y.0)) [
      | inl e ↦ ap is_some e ∙ is_some-option_map f (symbol_at table z) ∙ was
      | inr e ↦ ap is_some e ∙ was
    ];
    mutated = λ z own was. mutated-as z own (same_or_other z.0 y.0);
    called = λ z own was. elim (row z (same_or_other z.0 y.0)) [
      | inl e ↦ ap (λ o. unwrap_or (option_map (λ x. x.name) o) []) e ∙ name-of (symbol_at table z)
      | inr e ↦ ap (λ o. unwrap_or (option_map (λ x. x.name) o) []) e
    ];
  }

or-cases : (a b : Bool) → (a || b) ≡ true → (a ≡ true) ⊎ (b ≡ true)
or-cases true b h = inl refl
or-cases false b h = inr h

or-right : (a b : Bool) → b ≡ true → (a || b) ≡ true
or-right true b h = refl
or-right false b h = h

is-number : (k r : ℕ) → eq_by_cmp nat_cmp k r ≡ true → k ≡ r
is-number k r e = (Decides-eqb k r).0 (sym (unsigned_tied k r) ∙ e)

-- a reference put on a list
listing-mutated : (references : List Reference) (r : ℕ) (o : Option Symbol) → (writes (slice_get references r) ≡ true → Mutated references o) → Mutated references (option_map (listing r) o) ↔ Mutated references o
listing-mutated references r None h = (λ m. m, λ m. m)
listing-mutated references r (Some x) h = (to, from)
  where
    to : (x.is_marked ≡ true) ⊎ HoldsWrite (set.insert x.references r) references → (x.is_marked ≡ true) ⊎ HoldsWrite x.references references
    to (inl m) = inl m
    to (inr w) = elim (or-cases (eq_by_cmp nat_cmp w.0 r) (set.contains x.references w.0) (sym (set.contains-insert nat_cmp_total x.references r w.0) ∙ w.1)) [
      | inl e ↦ h (ap (λ (k : ℕ). writes (slice_get references k)) (sym (is-number w.0 r e)) ∙ w.2)
      | inr was ↦ inr (w.0, was, w.2)
    ]

    from : (x.is_marked ≡ true) ⊎ HoldsWrite x.references references → (x.is_marked ≡ true) ⊎ HoldsWrite (set.insert x.references r) references
    from (inl m) = inl m
    from (inr w) = inr (w.0, set.contains-insert nat_cmp_total x.references r w.0 ∙ or-right (eq_by_cmp nat_cmp w.0 r) (set.contains x.references w.0) w.1, w.2)

and-right : (a b : Bool) → (a && b) ≡ true → b ≡ true
and-right true b h = h
and-right false b h = absurd (true≢false (sym h))

-- and taken off one
unlisting-mutated : (references : List Reference) (r : ℕ) (o : Option Symbol) → (writes (slice_get references r) ≡ true → Mutated references (option_map (unlisting r) o)) → Mutated references (option_map (unlisting r) o) ↔ Mutated references o
unlisting-mutated references r None h = (λ m. m, λ m. m)
unlisting-mutated references r (Some x) h = (to, from)
  where
    to : (x.is_marked ≡ true) ⊎ HoldsWrite (set.remove x.references r) references → (x.is_marked ≡ true) ⊎ HoldsWrite x.references references
    to (inl m) = inl m
    to (inr w) = inr (w.0, and-right (not (eq_by_cmp nat_cmp w.0 r)) (set.contains x.references w.0) (sym (set.contains-remove nat_cmp_total x.references r w.0) ∙ w.1), w.2)

    from : (x.is_marked ≡ true) ⊎ HoldsWrite x.references references → (x.is_marked ≡ true) ⊎ HoldsWrite (set.remove x.references r) references
    from (inl m) = inl m
    from (inr w) = elim (eq_by_cmp nat_cmp w.0 r) as (λ b. eq_by_cmp nat_cmp w.0 r ≡ b → (x.is_marked ≡ true) ⊎ HoldsWrite (set.remove x.references r) references) [
      | true ↦ λ e. h (ap (λ (k : ℕ). writes (slice_get references k)) (sym (is-number w.0 r e)) ∙ w.2)
      | false ↦ λ e. inr (w.0, set.contains-remove nat_cmp_total x.references r w.0 ∙ ap (λ b. not b && set.contains x.references w.0) e ∙ w.1, w.2)
    ] refl

mutated-there : (o : Option Symbol) (references : List Reference) → Mutated references o → is_some o ≡ true
mutated-there None references h = absurd h
mutated-there (Some x) references h = refl

module _ (t : Tree) (table : Table) where
  pub with_listed-alike : (y : SymbolId) (r : ReferenceId) → (HasSymbolOf t y → writes (reference_at table r) ≡ true → IsMutated table y) → AreAlike t table (with_listed table y r)
  with_listed-alike y r h = listed-alike t table y (listing r.0) (λ x. refl) (λ own. listing-mutated table.references r.0 (symbol_at table y) (h own))

  pub without_listed-alike : (y : SymbolId) (r : ReferenceId) → (HasSymbolOf t y → writes (reference_at table r) ≡ true → IsMutated (without_listed table y r) y) → AreAlike t table (without_listed table y r)
  without_listed-alike y r h = listed-alike t table y (unlisting r.0) (λ x. refl) (λ own. unlisting-mutated table.references r.0 (symbol_at table y) (λ w.
      subst (Mutated table.references) (slice_get-changed_at_same (unlisting r.0) y.0 table.symbols) (h own w)))

-- a new reference, on the list of its symbol
pub created-alike : (t : Tree) (table : Table) → IsTable table → (o : Option SymbolId) (f : ReferenceFlags) → ((y : SymbolId) → o ≡ Some y → HasSymbolOf t y → writes (Some (record { symbol_id = o; flags = f })) ≡ true → IsMutated table y) → AreAlike t table (with_created_reference table o f)
created-alike t table holds None f h = new_reference-alike t table holds None f
created-alike t table holds (Some y) f h =
    let pushed : Table = with_new_reference table (Some y) f in
    let added = new_reference-alike t table holds (Some y) f in
    let last = slice_get-push_last table.references (record { symbol_id = Some y; flags = f }) in
    alike-trans t table pushed (with_created_reference table (Some y) f) added (with_listed-alike t pushed y (record { 0 = length table.references }) (λ own w.
    let was = h y refl own (sym (ap writes last) ∙ w) in
    (added.mutated y own (mutated-there (symbol_at table y) table.references was)).1 was))
