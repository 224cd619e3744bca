-- After which calls a table is as it was for a tree.
use Rattle.std.proofs.Common.{◌≡◌, ◌≢◌, refl, sym, ap, subst, ◌∙◌, ℕ, ◌<◌, List, [], ◌∷◌, ◌++◌, length, Bool, true, true≢false, Option, Some, None, ◌⊎◌, inl, inr}
use Rattle.std.specs.Prelude.{is_some, option_map, slice_get, unwrap_or, MatchOption}
use Rattle.std.specs.Option.{option_and_then}
use Rattle.es_base.specs.Carried.{symbol_number}
use Rattle.es_base.specs.Tree.{Tree}
use Rattle.es_base.specs.declared.ids.ScopeId.{ScopeId}
use Rattle.es_base.specs.declared.ids.SymbolId.{SymbolId}
use Rattle.es_base.specs.declared.ids.ReferenceId.{ReferenceId}
use Rattle.es_scopes.specs.Agreement.{AreAlike, HasScopeOf, HasSymbolOf, HasReferenceOf}
use Rattle.es_scopes.specs.Bindings.{Names, lookup}
use Rattle.es_scopes.specs.ReferenceNumbers.{ReferenceNumbers}
use Rattle.es_scopes.specs.References.{HoldsWrite, writes}
use Rattle.es_scopes.specs.Table.{Table, IsTable, HasScope, HasSymbol, HasReference, row_at, names_of_row, changed_at, listed, scope_flagged, below, holding, renaming, called, symbol_flagged, reference_flagged, targeted, new_scope, new_symbol, with_scope_flags, with_parent, with_new_scope, with_binding, with_name, with_symbol_flags, with_reference_flags, with_target, with_new_reference, name_of}
use Rattle.es_scopes.specs.declared.flags.ScopeFlags.{ScopeFlags}
use Rattle.es_scopes.specs.declared.flags.SymbolFlags.{SymbolFlags}
use Rattle.es_scopes.specs.declared.flags.ReferenceFlags.{ReferenceFlags}
use Rattle.es_scopes.specs.declared.table.Scope.{Scope}
use Rattle.es_scopes.specs.declared.table.Symbol.{Symbol}
use Rattle.es_scopes.specs.declared.table.Reference.{Reference}
use Rattle.es_scopes.proofs.RowLemmas.{same_or_other, slice_get-changed_at_same, slice_get-changed_at_other, slice_get-push_within, within_from_some, within_from_row}
use Rattle.es_scopes.proofs.TableLemmas.{row_at-changed_same, row_at-changed_other}

pub alike-trans : (t : Tree) (a b c : Table) → AreAlike t a b → AreAlike t b c → AreAlike t a c
alike-trans t a b c h k = record {
  there = λ s own was. k.there s own (h.there s own was);
  parent = λ s own was. k.parent s own (h.there s own was) ∙ h.parent s own was;
  names = λ s own was name. k.names s own (h.there s own was) name ∙ h.names s own was name;
  references = λ r own was. k.references r own (h.references r own was);
  targets = λ r own was. k.targets r own (h.references r own was) ∙ h.targets r own was;
  symbols = λ y own was. k.symbols y own (h.symbols y own was);
  mutated = λ y own was. let one = h.mutated y own was in let other = k.mutated y own (h.symbols y own was) in (λ m. one.0 (other.0 m), λ m. other.1 (one.1 m));
  called = λ y own was. k.called y own (h.symbols y own was) ∙ h.called y own was;
}

from_some : {A : Type 0} (x y : A) → Some x ≡ Some y → x ≡ y
from_some x y e = cc

-- ---- scopes alone

-- what is seen of a scope
abbrev pub seen : Option Scope → Option (Option ScopeId × Names)
seen o = option_map {U = Option ScopeId × Names} (λ x. (x.parent, x.names)) o

seen-there : (o p : Option Scope) → seen p ≡ seen o → is_some o ≡ true → is_some p ≡ true
seen-there None p e h = absurd (true≢false (sym h))
seen-there (Some x) None e h = absurd (cc)
seen-there (Some x) (Some y) e h = refl

seen-parent : (o p : Option Scope) → seen p ≡ seen o → option_map (λ x. x.parent) p ≡ option_map (λ x. x.parent) o
seen-parent None None e = refl
seen-parent None (Some y) e = absurd (cc)
seen-parent (Some x) None e = absurd (cc)
seen-parent (Some x) (Some y) e = ap (λ (z : Option ScopeId × Names). Some z.0) (from_some _ _ e)

seen-names : (o p : Option Scope) → seen p ≡ seen o → names_of_row p ≡ names_of_row o
seen-names None None e = refl
seen-names None (Some y) e = absurd (cc)
seen-names (Some x) None e = absurd (cc)
seen-names (Some x) (Some y) e = ap (λ (z : Option ScopeId × Names). z.1) (from_some _ _ e)

module _ (t : Tree) (table : Table) (scopes : List (Option Scope)) (same : (s : ScopeId) → HasScopeOf t s → HasScope table s → seen (row_at scopes s.0) ≡ seen (row_at table.scopes s.0)) where
  pub alike-scopes : AreAlike t table (record table { scopes = scopes })
  alike-scopes = record {
    there = λ s own was. seen-there _ _ (same s own was) was;
    parent = λ s own was. ap (option_and_then (λ p. p)) (seen-parent _ _ (same s own was));
    names = λ s own was name. ap (lookup name) (seen-names _ _ (same s own was));
    references = λ k own was. was;
    targets = λ k own was. refl;
    symbols = λ y own was. was;
    mutated = λ y own was. (λ m. m, λ m. m);
    called = λ y own was. refl;
  }

seen-kept : (f : Scope → Scope) → ((x : Scope) → (f x).parent ≡ x.parent) → ((x : Scope) → (f x).names ≡ x.names) → (o : Option Scope) → seen (option_map f o) ≡ seen o
seen-kept f p n None = refl
seen-kept f p n (Some x) = λ i. Some (p x i, n x i)

-- a scope that the tree does not have is another than one that it has
pub apart : (t : Tree) (s q : ScopeId) → (HasScopeOf t s → ⊥) → HasScopeOf t q → q.0 ≢ s.0
apart t s q none own e = none (own.0, own.1, own.2 ∙ ap (λ (n : ℕ). Some n) e)

module _ (t : Tree) (table : Table) where
  pub scope_flags-alike : (s : ScopeId) (f : ScopeFlags) → AreAlike t table (with_scope_flags table s f)
  scope_flags-alike s f = alike-scopes t table _ (λ q own was. elim (same_or_other q.0 s.0) [
    | inl same ↦ subst (λ (n : ℕ). seen (row_at (changed_at (option_map (scope_flagged f)) s.0 table.scopes) n) ≡ seen (row_at table.scopes n)) (sym same) (ap seen (row_at-changed_same (scope_flagged f) s.0 table.scopes) ∙ seen-kept (scope_flagged f) (λ x. refl) (λ x. refl) (row_at table.scopes s.0))
    | inr other ↦ ap seen (row_at-changed_other (option_map (scope_flagged f)) s.0 q.0 table.scopes other)
  ])

  changed-alike : (s : ScopeId) (f : Scope → Scope) → (HasScopeOf t s → ⊥) → AreAlike t table (record table { scopes = changed_at (option_map f) s.0 table.scopes })
  changed-alike s f none = alike-scopes t table _ (λ q own was. ap seen (row_at-changed_other (option_map f) s.0 q.0 table.scopes (apart t s q none own)))

  pub parent-alike : (s : ScopeId) (p : Option ScopeId) → (HasScopeOf t s → ⊥) → AreAlike t table (with_parent table s p)
  parent-alike s p none = changed-alike s (below p) none

  pub new_scope-alike : (p : Option ScopeId) (f : ScopeFlags) → AreAlike t table (with_new_scope table p f)
  new_scope-alike p f = alike-scopes t table _ (λ q own was. ap (λ o. seen (option_and_then (λ r. r) o)) (slice_get-push_within table.scopes (Some (new_scope p f)) q.0 (within_from_row table.scopes q.0 was)))

-- ---- symbols alone

-- what is seen of a symbol
abbrev shown : Option Symbol → Option (List ℕ × ReferenceNumbers × Bool)
shown o = option_map {U = List ℕ × ReferenceNumbers × Bool} (λ x. (x.name, x.references, x.is_marked)) o

shown-there : (o p : Option Symbol) → shown p ≡ shown o → is_some o ≡ true → is_some p ≡ true
shown-there None p e h = absurd (true≢false (sym h))
shown-there (Some x) None e h = absurd (cc)
shown-there (Some x) (Some y) e h = refl

-- a symbol is marked, or one of these references writes
abbrev Mutated : List Reference → Option Symbol → Type 0
Mutated references o = MatchOption o ⊥ (λ x. (x.is_marked ≡ true) ⊎ HoldsWrite x.references references)

shown-mutated : (references : List Reference) (o p : Option Symbol) → shown p ≡ shown o → Mutated references o → Mutated references p
shown-mutated references None p e h = absurd h
shown-mutated references (Some x) None e h = absurd (cc)
shown-mutated references (Some x) (Some y) e h =
    let mark : x.is_marked ≡ y.is_marked = sym (ap (λ (z : List ℕ × ReferenceNumbers × Bool). z.2) (from_some _ _ e)) in
    let numbers : x.references ≡ y.references = sym (ap (λ (z : List ℕ × ReferenceNumbers × Bool). z.1) (from_some _ _ e)) in
    elim h [
      | inl m ↦ inl (sym mark ∙ m)
      | inr w ↦ inr (subst (λ (ns : ReferenceNumbers). HoldsWrite ns references) numbers w)
    ]

shown-name : (o p : Option Symbol) → shown p ≡ shown o → option_map (λ x. x.name) p ≡ option_map (λ x. x.name) o
shown-name None None e = refl
shown-name None (Some y) e = absurd (cc)
shown-name (Some x) None e = absurd (cc)
shown-name (Some x) (Some y) e = ap (λ (z : List ℕ × ReferenceNumbers × Bool). Some z.0) (from_some _ _ e)

module _ (t : Tree) (table : Table) (symbols : List Symbol) (same : (y : SymbolId) → HasSymbolOf t y → HasSymbol table y → shown (slice_get symbols y.0) ≡ shown (slice_get table.symbols y.0)) where
  pub alike-symbols : AreAlike t table (record table { symbols = symbols })
  alike-symbols = record {
    there = λ s own was. was;
    parent = λ s own was. refl;
    names = λ s own was name. refl;
    references = λ k own was. was;
    targets = λ k own was. refl;
    symbols = λ y own was. shown-there _ _ (same y own was) was;
    mutated = λ y own was. (λ m. shown-mutated table.references _ _ (sym (same y own was)) m, λ m. shown-mutated table.references _ _ (same y own was) m);
    called = λ y own was. ap (λ o. unwrap_or o []) (shown-name _ _ (same y own was));
  }

shown-kept : (f : Symbol → Symbol) → ((x : Symbol) → (f x).name ≡ x.name) → ((x : Symbol) → (f x).references ≡ x.references) → ((x : Symbol) → (f x).is_marked ≡ x.is_marked) → (o : Option Symbol) → shown (option_map f o) ≡ shown o
shown-kept f n r m None = refl
shown-kept f n r m (Some x) = λ i. Some (n x i, r x i, m x i)

other_symbol : (t : Tree) (y z : SymbolId) → (HasSymbolOf t y → ⊥) → HasSymbolOf t z → z.0 ≢ y.0
other_symbol t y z none own e = none (own.0, own.1, own.2 ∙ ap (λ (n : ℕ). Some n) e)

module _ (t : Tree) (table : Table) where
  pub symbol_flags-alike : (y : SymbolId) (f : SymbolFlags) → AreAlike t table (with_symbol_flags table y f)
  symbol_flags-alike y f = alike-symbols t table _ (λ z own was. elim (same_or_other z.0 y.0) [
    | inl same ↦ subst (λ (n : ℕ). shown (slice_get (changed_at (symbol_flagged f) y.0 table.symbols) n) ≡ shown (slice_get table.symbols n)) (sym same) (ap shown (slice_get-changed_at_same (symbol_flagged f) y.0 table.symbols) ∙ shown-kept (symbol_flagged f) (λ x. refl) (λ x. refl) (λ x. refl) (slice_get table.symbols y.0))
    | inr other ↦ ap shown (slice_get-changed_at_other (symbol_flagged f) y.0 z.0 table.symbols other)
  ])

  pub symbol-alike : (y : SymbolId) (f : Symbol → Symbol) → (HasSymbolOf t y → ⊥) → AreAlike t table (record table { symbols = changed_at f y.0 table.symbols })
  symbol-alike y f none = alike-symbols t table _ (λ z own was. ap shown (slice_get-changed_at_other f y.0 z.0 table.symbols (other_symbol t y z none own)))

  new_symbol-alike : (x : Symbol) → AreAlike t table (record table { symbols = table.symbols ++ x ∷ [] })
  new_symbol-alike x = alike-symbols t table _ (λ z own was. ap shown (slice_get-push_within table.symbols x z.0 (within_from_some table.symbols z.0 was)))

  pub binding-alike : (s : ScopeId) (name : List ℕ) (f : SymbolFlags) → (HasScopeOf t s → ⊥) → AreAlike t table (with_binding table s name f)
  binding-alike s name f none =
      let pushed : Table = record table { symbols = table.symbols ++ new_symbol name s f ∷ [] } in
      alike-trans t table pushed (with_binding table s name f) (new_symbol-alike (new_symbol name s f)) (changed-alike t pushed s (holding name (record { 0 = length table.symbols })) none)

module _ (t : Tree) (table : Table) where
  pub name-alike : (y : SymbolId) (s : ScopeId) (name : List ℕ) → (HasScopeOf t s → ⊥) → (HasSymbolOf t y → ⊥) → AreAlike t table (with_name table y s name)
  name-alike y s name no_scope no_symbol =
      let held : Table = record table { scopes = changed_at (option_map (renaming (name_of table y) name)) s.0 table.scopes } in
      alike-trans t table held (with_name table y s name) (changed-alike t table s (renaming (name_of table y) name) no_scope) (symbol-alike t held y (called name) no_symbol)

-- ---- references alone

module _ (t : Tree) (table : Table) (holds : IsTable table) (references : List Reference)
    (targets : (k : ReferenceId) → HasReferenceOf t k → HasReference table k → (is_some (slice_get references k.0) ≡ true) × (option_and_then (λ x. x.symbol_id) (slice_get references k.0) ≡ option_and_then (λ x. x.symbol_id) (slice_get table.references k.0)))
    (writing : (r : ℕ) → r < length table.references → writes (slice_get references r) ≡ writes (slice_get table.references r)) where
  write-before : (x : Option Symbol) → ((r : ℕ) → listed x r ≡ true → r < length table.references) → Mutated references x → Mutated table.references x
  write-before None within h = h
  write-before (Some x) within h = elim h [ inl m ↦ inl m | inr w ↦ inr (w.0, w.1, sym (writing w.0 (within w.0 w.1)) ∙ w.2) ]

  write-after : (x : Option Symbol) → ((r : ℕ) → listed x r ≡ true → r < length table.references) → Mutated table.references x → Mutated references x
  write-after None within h = h
  write-after (Some x) within h = elim h [ inl m ↦ inl m | inr w ↦ inr (w.0, w.1, writing w.0 (within w.0 w.1) ∙ w.2) ]

  pub alike-references : AreAlike t table (record table { references = references })
  alike-references = record {
    there = λ s own was. was;
    parent = λ s own was. refl;
    names = λ s own was name. refl;
    references = λ k own was. (targets k own was).0;
    targets = λ k own was. ap symbol_number (targets k own was).1;
    symbols = λ y own was. was;
    mutated = λ y own was. (write-before (slice_get table.symbols y.0) (holds.listed y.0), write-after (slice_get table.symbols y.0) (holds.listed y.0));
    called = λ y own was. refl;
  }

module _ (t : Tree) (table : Table) (holds : IsTable table) where
  -- other flags that write where the old ones do
  pub reference_flags-alike : (r : ReferenceId) (f : ReferenceFlags) → ((x : Reference) → slice_get table.references r.0 ≡ Some x → writes (Some (reference_flagged f x)) ≡ writes (Some x)) → AreAlike t table (with_reference_flags table r f)
  reference_flags-alike r f same = alike-references t table holds _ (λ k own was. at_target k.0 (same_or_other k.0 r.0) was) (λ k within. at_write k (same_or_other k r.0))
    where
      of_row : (o : Option Reference) → (is_some o ≡ true → is_some (option_map (reference_flagged f) o) ≡ true) × (option_and_then (λ x. x.symbol_id) (option_map (reference_flagged f) o) ≡ option_and_then (λ x. x.symbol_id) o)
      of_row None = (λ h. h, refl)
      of_row (Some x) = (λ h. refl, refl)

      at_target : (k : ℕ) → (k ≡ r.0) ⊎ (k ≢ r.0) → is_some (slice_get table.references k) ≡ true → (is_some (slice_get (changed_at (reference_flagged f) r.0 table.references) k) ≡ true) × (option_and_then (λ x. x.symbol_id) (slice_get (changed_at (reference_flagged f) r.0 table.references) k) ≡ option_and_then (λ x. x.symbol_id) (slice_get table.references k))
      at_target k (inl e) was =
          let row : slice_get (changed_at (reference_flagged f) r.0 table.references) k ≡ option_map (reference_flagged f) (slice_get table.references k) = ap (slice_get (changed_at (reference_flagged f) r.0 table.references)) e ∙ slice_get-changed_at_same (reference_flagged f) r.0 table.references ∙ ap (λ (n : ℕ). option_map (reference_flagged f) (slice_get table.references n)) (sym e) in
          (ap is_some row ∙ (of_row (slice_get table.references k)).0 was, ap (option_and_then (λ x. x.symbol_id)) row ∙ (of_row (slice_get table.references k)).1)
      at_target k (inr other) was =
          let row : slice_get (changed_at (reference_flagged f) r.0 table.references) k ≡ slice_get table.references k = slice_get-changed_at_other (reference_flagged f) r.0 k table.references other in
          (ap is_some row ∙ was, ap (option_and_then (λ x. x.symbol_id)) row)

      of_write : (o : Option Reference) → ((x : Reference) → o ≡ Some x → writes (Some (reference_flagged f x)) ≡ writes (Some x)) → writes (option_map (reference_flagged f) o) ≡ writes o
      of_write None h = refl
      of_write (Some x) h = h x refl

      at_write : (k : ℕ) → (k ≡ r.0) ⊎ (k ≢ r.0) → writes (slice_get (changed_at (reference_flagged f) r.0 table.references) k) ≡ writes (slice_get table.references k)
      at_write k (inl e) = ap (λ (n : ℕ). writes (slice_get (changed_at (reference_flagged f) r.0 table.references) n)) e ∙ ap writes (slice_get-changed_at_same (reference_flagged f) r.0 table.references) ∙ of_write (slice_get table.references r.0) same ∙ ap (λ (n : ℕ). writes (slice_get table.references n)) (sym e)
      at_write k (inr other) = ap writes (slice_get-changed_at_other (reference_flagged f) r.0 k table.references other)

  -- a reference that stands at no node of the tree
  pub target-alike : (r : ReferenceId) (y : SymbolId) → (HasReferenceOf t r → ⊥) → AreAlike t table (with_target table r y)
  target-alike r y none = alike-references t table holds _
      (λ k own was. let row : slice_get (changed_at (targeted y) r.0 table.references) k.0 ≡ slice_get table.references k.0 = slice_get-changed_at_other (targeted y) r.0 k.0 table.references (λ e. none (own.0, own.1, own.2 ∙ ap (λ (n : ℕ). Some n) e)) in (ap is_some row ∙ was, ap (option_and_then (λ x. x.symbol_id)) row))
      (λ k within. at_write k (same_or_other k r.0))
    where
      of_write : (o : Option Reference) → writes (option_map (targeted y) o) ≡ writes o
      of_write None = refl
      of_write (Some x) = refl

      at_write : (k : ℕ) → (k ≡ r.0) ⊎ (k ≢ r.0) → writes (slice_get (changed_at (targeted y) r.0 table.references) k) ≡ writes (slice_get table.references k)
      at_write k (inl e) = ap (λ (n : ℕ). writes (slice_get (changed_at (targeted y) r.0 table.references) n)) e ∙ ap writes (slice_get-changed_at_same (targeted y) r.0 table.references) ∙ of_write (slice_get table.references r.0) ∙ ap (λ (n : ℕ). writes (slice_get table.references n)) (sym e)
      at_write k (inr other) = ap writes (slice_get-changed_at_other (targeted y) r.0 k table.references other)

  -- a new reference, before it is on a list
  pub new_reference-alike : (y : Option SymbolId) (f : ReferenceFlags) → AreAlike t table (with_new_reference table y f)
  new_reference-alike y f = alike-references t table holds _
      (λ k own was. let row : slice_get (table.references ++ record { symbol_id = y; flags = f } ∷ []) k.0 ≡ slice_get table.references k.0 = slice_get-push_within table.references (record { symbol_id = y; flags = f }) k.0 (within_from_some table.references k.0 was) in (ap is_some row ∙ was, ap (option_and_then (λ x. x.symbol_id)) row))
      (λ k within. ap writes (slice_get-push_within table.references (record { symbol_id = y; flags = f }) k within))
