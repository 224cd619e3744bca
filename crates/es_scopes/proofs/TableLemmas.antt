-- What holds of every table, after each change of it.
use Rattle.std.proofs.Common.{◌≡◌, ◌≢◌, refl, sym, ap, subst, ◌∙◌, ℕ, zero, suc, ◌<◌, List, [], ◌∷◌, ◌++◌, map, length, Option, Some, None, Bool, true, false, true≢false, cond, nat_eq, ◌⊎◌, inl, inr, arith}
use Rattle.std.specs.Prelude.{slice_get, option_map, is_some, Contains, ◌||◌, ◌&&◌, not}
use Rattle.std.specs.Ordering.{nat_cmp, eq_by_cmp}
use Rattle.std.specs.Cmp.{unsigned_tied}
use Rattle.std.proofs.lemmas.Cmp.{nat_cmp_total}
use Rattle.std.proofs.lemmas.Bool.Decides.{Decides-eqb}
use Rattle.std.proofs.lemmas.Bool.{and_parts}
use Rattle.std.specs.Option.{option_and_then}
use Rattle.std.specs.FinSet as set
use Rattle.std.proofs.lemmas.List.{length-append, length-map}
use Rattle.es_base.specs.declared.ids.ScopeId.{ScopeId}
use Rattle.es_base.specs.declared.ids.SymbolId.{SymbolId}
use Rattle.es_scopes.specs.Bindings.{lookup}
use Rattle.es_scopes.specs.Table.{Table, changed_at, row_at, parents, names_of_row, AreTrees, AreNamed, HaveTargets, AreListed, IsTable, listed, ends, ends_from, chain, scope_flagged, below, symbol_flagged, marked, reference_flagged, targeted, listing, unlisting, new_scope, with_new_reference, lifted, is_scope, parent_of, without_scope}
use Rattle.es_scopes.specs.declared.flags.ScopeFlags.{ScopeFlags}
use Rattle.es_scopes.specs.declared.flags.SymbolFlags.{SymbolFlags}
use Rattle.es_scopes.specs.declared.flags.ReferenceFlags.{ReferenceFlags}
use Rattle.es_scopes.specs.declared.table.Scope.{Scope}
use Rattle.es_scopes.specs.declared.table.Symbol.{Symbol}
use Rattle.es_scopes.specs.declared.table.Reference.{Reference}
use Rattle.es_scopes.proofs.RowLemmas.{same_or_other, length-changed_at, slice_get-changed_at_same, slice_get-changed_at_other, slice_get-push_within, slice_get-push_last, within_from_row, option_map-and_then, is_some-option_map}
use Rattle.es_scopes.proofs.TreeLemmas.{ends-le, ends-same, ends-moved, ends-beside, ends-lifted, is_among, Contains-among, lifted_parent}

and_right : (a b : Bool) → (a && b) ≡ true → b ≡ true
and_right a b h = (and_parts a b h).1

-- ---- rows of scopes

abbrev row_of : Option (Option Scope) → Option Scope
row_of o = option_and_then (λ r. r) o

pub row_at-changed_same : (f : Scope → Scope) (i : ℕ) (scopes : List (Option Scope)) → row_at (changed_at (option_map f) i scopes) i ≡ option_map f (row_at scopes i)
row_at-changed_same f i scopes = ap (option_and_then (λ r. r)) (slice_get-changed_at_same (option_map f) i scopes) ∙ sym (option_map-and_then f (slice_get scopes i))

pub row_at-changed_other : (f : Option Scope → Option Scope) (i j : ℕ) (scopes : List (Option Scope)) → j ≢ i → row_at (changed_at f i scopes) j ≡ row_at scopes j
row_at-changed_other f i j scopes apart = ap (option_and_then (λ r. r)) (slice_get-changed_at_other f i j scopes apart)

pub is_some-parents : (scopes : List (Option Scope)) (s : ScopeId) → is_some (parents scopes s) ≡ is_some (row_at scopes s.0)
is_some-parents scopes s = is_some-option_map (λ x. x.parent) (row_at scopes s.0)

pub parents-below : (scopes : List (Option Scope)) (s : ScopeId) → is_some (parents scopes s) ≡ true → s.0 < length scopes
parents-below scopes s h = within_from_row scopes s.0 (sym (is_some-parents scopes s) ∙ h)

-- parents that stay
pub AreTrees-same : (scopes others : List (Option Scope)) → length others ≡ length scopes → ((s : ScopeId) → parents others s ≡ parents scopes s) → AreTrees scopes → AreTrees others
AreTrees-same scopes others len same trees s there =
    subst (λ n. ends (parents others) n s ≡ true) (sym len)
    (ends-same (parents scopes) (parents others) (λ q _. same q) (length scopes) s
    (trees s (sym (is_some-parents scopes s) ∙ ap is_some (sym (same s)) ∙ is_some-parents others s ∙ there)))

pub AreNamed-same : (scopes others : List (Option Scope)) (symbols : List Symbol) → ((s : ScopeId) → names_of_row (row_at others s.0) ≡ names_of_row (row_at scopes s.0)) → AreNamed scopes symbols → AreNamed others symbols
AreNamed-same scopes others symbols same named s name y h = named s name y (sym (ap (lookup name) (same s)) ∙ h)

-- a scope changed in a part of its row
module _ {P : Type 0} (part : Option Scope → P) (f : Scope → Scope) (i : ℕ) (scopes : List (Option Scope)) where
  pub part-changed : ((o : Option Scope) → part (option_map f o) ≡ part o) → (j : ℕ) → part (row_at (changed_at (option_map f) i scopes) j) ≡ part (row_at scopes j)
  part-changed kept j = elim (same_or_other j i) [
    | inl same ↦ subst (λ k. part (row_at (changed_at (option_map f) i scopes) k) ≡ part (row_at scopes k)) (sym same) (ap part (row_at-changed_same f i scopes) ∙ kept (row_at scopes i))
    | inr apart ↦ ap part (row_at-changed_other (option_map f) i j scopes apart)
  ]

parents_kept : (f : Scope → Scope) → ((x : Scope) → (f x).parent ≡ x.parent) → (o : Option Scope) → option_map (λ x. x.parent) (option_map f o) ≡ option_map (λ x. x.parent) o
parents_kept f kept None = refl
parents_kept f kept (Some x) = ap (λ p. Some p) (kept x)

names_kept : (f : Scope → Scope) → ((x : Scope) → (f x).names ≡ x.names) → (o : Option Scope) → names_of_row (option_map f o) ≡ names_of_row o
names_kept f kept None = refl
names_kept f kept (Some x) = kept x

module _ (f : Scope → Scope) (i : ℕ) (scopes : List (Option Scope)) where
  pub AreTrees-changed : ((x : Scope) → (f x).parent ≡ x.parent) → AreTrees scopes → AreTrees (changed_at (option_map f) i scopes)
  AreTrees-changed kept = AreTrees-same scopes _ (length-changed_at _ i scopes) (λ s. part-changed (option_map (λ x. x.parent)) f i scopes (parents_kept f kept) s.0)

  pub AreNamed-changed : (symbols : List Symbol) → ((x : Scope) → (f x).names ≡ x.names) → AreNamed scopes symbols → AreNamed (changed_at (option_map f) i scopes) symbols
  AreNamed-changed symbols kept = AreNamed-same scopes _ symbols (λ s. part-changed names_of_row f i scopes (names_kept f kept) s.0)

-- ---- symbols

abbrev pub Named : Option Symbol → List ℕ → ScopeId → Type 0
Named o name s = option_map {U = List ℕ × ScopeId} (λ x. (x.name, x.scope)) o ≡ Some (name, s)

-- a symbol changed, which keeps its name and scope
module _ (f : Symbol → Symbol) (i : ℕ) (symbols : List Symbol) where
  pub AreNamed-symbol : (scopes : List (Option Scope)) → ((x : Symbol) → (f x).name ≡ x.name) → ((x : Symbol) → (f x).scope ≡ x.scope) → AreNamed scopes symbols → AreNamed scopes (changed_at f i symbols)
  AreNamed-symbol scopes same_name same_scope named s name y h = elim (same_or_other y.0 i) [
    | inl same ↦ subst (λ k. Named (slice_get (changed_at f i symbols) k) name s) (sym same) (
        subst (λ o. Named o name s) (sym (slice_get-changed_at_same f i symbols))
        (kept_symbol (slice_get symbols i) name s (subst (λ k. Named (slice_get symbols k) name s) same (named s name y h))))
    | inr apart ↦ subst (λ o. Named o name s) (sym (slice_get-changed_at_other f i y.0 symbols apart)) (named s name y h)
  ]
    where
      kept_symbol : (o : Option Symbol) (name : List ℕ) (s : ScopeId) → Named o name s → Named (option_map f o) name s
      kept_symbol None name s h = h
      kept_symbol (Some x) name s h = (λ i. Some (same_name x i, same_scope x i)) ∙ h

  pub AreListed-symbol : (n : ℕ) → ((x : Symbol) (r : ℕ) → set.contains (f x).references r ≡ true → (set.contains x.references r ≡ true) ⊎ (r < n)) → AreListed symbols n → AreListed (changed_at f i symbols) n
  AreListed-symbol n kept was y r h = elim (same_or_other y i) [
    | inl same ↦ kept_list (slice_get symbols i) (λ r. was i r) r (sym (ap (λ o. listed o r) (ap (slice_get (changed_at f i symbols)) same ∙ slice_get-changed_at_same f i symbols)) ∙ h)
    | inr apart ↦ was y r (sym (ap (λ o. listed o r) (slice_get-changed_at_other f i y symbols apart)) ∙ h)
  ]
    where
      kept_list : (o : Option Symbol) → ((r : ℕ) → listed o r ≡ true → r < n) → (r : ℕ) → listed (option_map f o) r ≡ true → r < n
      kept_list None was r h = was r h
      kept_list (Some x) was r h = elim (kept x r h) [ inl before ↦ was r before | inr within ↦ within ]

-- ---- after each call

module _ (t : Table) (h : IsTable t) where
  pub IsTable-scope_flags : (i : ℕ) (f : ScopeFlags) → IsTable (record t { scopes = changed_at (option_map (scope_flagged f)) i t.scopes })
  IsTable-scope_flags i f = record {
    trees = AreTrees-changed (scope_flagged f) i t.scopes (λ x. refl) h.trees;
    named = AreNamed-changed (scope_flagged f) i t.scopes t.symbols (λ x. refl) h.named;
    targets = h.targets;
    listed = h.listed;
  }

  IsTable-symbol : (f : Symbol → Symbol) (i : ℕ) → ((x : Symbol) → (f x).name ≡ x.name) → ((x : Symbol) → (f x).scope ≡ x.scope)
      → ((x : Symbol) (r : ℕ) → set.contains (f x).references r ≡ true → (set.contains x.references r ≡ true) ⊎ (r < length t.references)) → IsTable (record t { symbols = changed_at f i t.symbols })
  IsTable-symbol f i same_name same_scope kept = record {
    trees = h.trees;
    named = AreNamed-symbol f i t.symbols t.scopes same_name same_scope h.named;
    targets = subst (HaveTargets t.references) (sym (length-changed_at f i t.symbols)) h.targets;
    listed = AreListed-symbol f i t.symbols (length t.references) kept h.listed;
  }

  -- a row written as it was
  pub IsTable-symbol_same : (i : ℕ) → IsTable (record t { symbols = changed_at (λ x. x) i t.symbols })
  IsTable-symbol_same i = IsTable-symbol (λ x. x) i (λ x. refl) (λ x. refl) (λ x r held. inl held)

  pub IsTable-symbol_flags : (i : ℕ) (f : SymbolFlags) → IsTable (record t { symbols = changed_at (symbol_flagged f) i t.symbols })
  IsTable-symbol_flags i f = IsTable-symbol (symbol_flagged f) i (λ x. refl) (λ x. refl) (λ x r held. inl held)

  pub IsTable-marked : (i : ℕ) → IsTable (record t { symbols = changed_at marked i t.symbols })
  IsTable-marked i = IsTable-symbol marked i (λ x. refl) (λ x. refl) (λ x r held. inl held)

  pub IsTable-listing : (i r : ℕ) → r < length t.references → IsTable (record t { symbols = changed_at (listing r) i t.symbols })
  IsTable-listing i r within = IsTable-symbol (listing r) i (λ x. refl) (λ x. refl) (λ x q held.
      elim (eq_by_cmp nat_cmp q r) as (λ b. eq_by_cmp nat_cmp q r ≡ b → (b || set.contains x.references q) ≡ true → (set.contains x.references q ≡ true) ⊎ (q < length t.references)) [
        | true ↦ λ e _. inr (let same : q ≡ r = (Decides-eqb q r).0 (sym (unsigned_tied q r) ∙ e) in omega arith)
        | false ↦ λ _ before. inl before
      ] refl (sym (set.contains-insert nat_cmp_total x.references r q) ∙ held))

  pub IsTable-unlisting : (i r : ℕ) → IsTable (record t { symbols = changed_at (unlisting r) i t.symbols })
  IsTable-unlisting i r = IsTable-symbol (unlisting r) i (λ x. refl) (λ x. refl) (λ x q held.
      inl (and_right (not (eq_by_cmp nat_cmp q r)) (set.contains x.references q) (sym (set.contains-remove nat_cmp_total x.references r q) ∙ held)))

  IsTable-reference : (f : Reference → Reference) (i : ℕ) → ((x : Reference) (y : SymbolId) → (f x).symbol_id ≡ Some y → (x.symbol_id ≡ Some y) ⊎ (y.0 < length t.symbols)) → IsTable (record t { references = changed_at f i t.references })
  IsTable-reference f i kept = record {
    trees = h.trees;
    named = h.named;
    targets = λ r y e. elim (same_or_other r i) [
      | inl same ↦ kept_target (slice_get t.references i) (λ y. h.targets i y) y (sym (ap (option_and_then (λ x. x.symbol_id)) (ap (slice_get (changed_at f i t.references)) same ∙ slice_get-changed_at_same f i t.references)) ∙ e)
      | inr apart ↦ h.targets r y (sym (ap (option_and_then (λ x. x.symbol_id)) (slice_get-changed_at_other f i r t.references apart)) ∙ e)
    ];
    listed = subst (AreListed t.symbols) (sym (length-changed_at f i t.references)) h.listed;
  }
    where
      kept_target : (o : Option Reference) → ((y : SymbolId) → option_and_then (λ x. x.symbol_id) o ≡ Some y → y.0 < length t.symbols) → (y : SymbolId) → option_and_then (λ x. x.symbol_id) (option_map f o) ≡ Some y → y.0 < length t.symbols
      kept_target None was y e = was y e
      kept_target (Some x) was y e = elim (kept x y e) [ inl before ↦ was y before | inr within ↦ within ]

  pub IsTable-reference_flags : (i : ℕ) (f : ReferenceFlags) → IsTable (record t { references = changed_at (reference_flagged f) i t.references })
  IsTable-reference_flags i f = IsTable-reference (reference_flagged f) i (λ x y e. inl e)

  pub IsTable-target : (i : ℕ) (y : SymbolId) → y.0 < length t.symbols → IsTable (record t { references = changed_at (targeted y) i t.references })
  IsTable-target i y within = IsTable-reference (targeted y) i (λ x z e. inr (let same : y ≡ z = cc in subst (λ (w : SymbolId). w.0 < length t.symbols) same within))

  pub IsTable-new_reference : (y : Option SymbolId) (f : ReferenceFlags) → ((z : SymbolId) → y ≡ Some z → z.0 < length t.symbols) → IsTable (with_new_reference t y f)
  IsTable-new_reference y f there = record {
    trees = h.trees;
    named = h.named;
    targets = λ r z e. elim (target_of_push t.references (record { symbol_id = y; flags = f }) r z e) [ inl was ↦ h.targets r z was | inr new ↦ there z new ];
    listed = λ q r held. let was = h.listed q r held in omega (arith, length-append t.references (record { symbol_id = y; flags = f } ∷ []));
  }
    where
      target_of_push : (references : List Reference) (x : Reference) (r : ℕ) (z : SymbolId) → option_and_then (λ x. x.symbol_id) (slice_get (references ++ x ∷ []) r) ≡ Some z
          → (option_and_then (λ x. x.symbol_id) (slice_get references r) ≡ Some z) ⊎ (x.symbol_id ≡ Some z)
      target_of_push [] x zero z e = inr e
      target_of_push [] x (suc r) z e = cc
      target_of_push (w ∷ references) x zero z e = inl e
      target_of_push (w ∷ references) x (suc r) z e = target_of_push references x r z e

-- ---- a new scope

names_of-push : (scopes : List (Option Scope)) (p : Option ScopeId) (f : ScopeFlags) (i : ℕ) → names_of_row (row_at (scopes ++ Some (new_scope p f) ∷ []) i) ≡ names_of_row (row_at scopes i)
names_of-push [] p f zero = refl
names_of-push [] p f (suc i) = refl
names_of-push (x ∷ scopes) p f zero = refl
names_of-push (x ∷ scopes) p f (suc i) = names_of-push scopes p f i

row_at-push_cases : (scopes : List (Option Scope)) (x : Scope) (i : ℕ) → is_some (row_at (scopes ++ Some x ∷ []) i) ≡ true → (is_some (row_at scopes i) ≡ true) ⊎ (i ≡ length scopes)
row_at-push_cases [] x zero h = inr refl
row_at-push_cases [] x (suc i) h = inl h
row_at-push_cases (w ∷ scopes) x zero h = inl h
row_at-push_cases (w ∷ scopes) x (suc i) h = elim (row_at-push_cases scopes x i h) [ inl was ↦ inl was | inr last ↦ inr (ap suc last) ]

pub parents-push_within : (scopes : List (Option Scope)) (x : Scope) (s : ScopeId) → s.0 < length scopes → parents (scopes ++ Some x ∷ []) s ≡ parents scopes s
parents-push_within scopes x s within = ap (λ o. option_map (λ x. x.parent) (row_of o)) (slice_get-push_within scopes (Some x) s.0 within)

pub parents-push_last : (scopes : List (Option Scope)) (x : Scope) (s : ScopeId) → s.0 ≡ length scopes → parents (scopes ++ Some x ∷ []) s ≡ Some x.parent
parents-push_last scopes x s last = ap (λ o. option_map (λ x. x.parent) (row_of o)) (ap (slice_get (scopes ++ Some x ∷ [])) last ∙ slice_get-push_last scopes (Some x))

AreTrees-push : (scopes : List (Option Scope)) (p : Option ScopeId) (f : ScopeFlags) → ((q : ScopeId) → p ≡ Some q → is_some (row_at scopes q.0) ≡ true) → AreTrees scopes → AreTrees (scopes ++ Some (new_scope p f) ∷ [])
AreTrees-push scopes p f around trees s there =
    subst (λ n. ends after n s ≡ true) (sym len) (elim (row_at-push_cases scopes (new_scope p f) s.0 there) [
      | inl was ↦ ends-le after (length scopes) (suc (length scopes)) s (omega arith) (old s was)
      | inr last ↦ ap (λ o. ends_from o (ends after (length scopes))) (parents-push_last scopes (new_scope p f) s last) ∙ at_parent p (λ q e. old q (around q e))
    ])
  where
    after : ScopeId → Option (Option ScopeId)
    after = parents (scopes ++ Some (new_scope p f) ∷ [])

    len : length (scopes ++ Some (new_scope p f) ∷ []) ≡ suc (length scopes)
    len = omega (arith, length-append scopes (Some (new_scope p f) ∷ []))

    old : (q : ScopeId) → is_some (row_at scopes q.0) ≡ true → ends (parents (scopes ++ Some (new_scope p f) ∷ [])) (length scopes) q ≡ true
    old q was = ends-same (parents scopes) (parents (scopes ++ Some (new_scope p f) ∷ [])) (λ x live. parents-push_within scopes (new_scope p f) x (parents-below scopes x live)) (length scopes) q (trees q was)

    at_parent : (o : Option ScopeId) → ((q : ScopeId) → o ≡ Some q → ends (parents (scopes ++ Some (new_scope p f) ∷ [])) (length scopes) q ≡ true) → ends_from (Some o) (ends (parents (scopes ++ Some (new_scope p f) ∷ [])) (length scopes)) ≡ true
    at_parent None k = refl
    at_parent (Some q) k = k q refl

pub IsTable-new_scope : (t : Table) (p : Option ScopeId) (f : ScopeFlags) → IsTable t → ((q : ScopeId) → p ≡ Some q → is_some (row_at t.scopes q.0) ≡ true) → IsTable (record t { scopes = t.scopes ++ Some (new_scope p f) ∷ [] })
IsTable-new_scope t p f h around = record {
  trees = AreTrees-push t.scopes p f around h.trees;
  named = AreNamed-same t.scopes _ t.symbols (λ s. names_of-push t.scopes p f s.0) h.named;
  targets = h.targets;
  listed = h.listed;
}

-- ---- another parent

pub some_row : (o : Option Scope) → is_some o ≡ true → (x : Scope) × (o ≡ Some x)
some_row None h = absurd (true≢false (sym h))
some_row (Some x) h = (x, refl)

module _ (scopes : List (Option Scope)) (s : ScopeId) (p : Option ScopeId) where
  moved : ScopeId → Option (Option ScopeId)
  moved = parents (changed_at (option_map (below p)) s.0 scopes)

  moved-at : is_some (row_at scopes s.0) ≡ true → parents (changed_at (option_map (below p)) s.0 scopes) s ≡ Some p
  moved-at there = let row = some_row (row_at scopes s.0) there in
      ap (λ o. option_map (λ x. x.parent) o) (row_at-changed_same (below p) s.0 scopes ∙ ap (option_map (below p)) row.1)

  moved-elsewhere : (q : ScopeId) → q.0 ≢ s.0 → parents (changed_at (option_map (below p)) s.0 scopes) q ≡ parents scopes q
  moved-elsewhere q apart = ap (λ o. option_map (λ x. x.parent) o) (row_at-changed_other (option_map (below p)) s.0 q.0 scopes apart)

  moved-there : (q : ScopeId) → is_some (row_at (changed_at (option_map (below p)) s.0 scopes) q.0) ≡ is_some (row_at scopes q.0)
  moved-there q = part-changed is_some (below p) s.0 scopes (λ o. is_some-option_map (below p) o) q.0

  pub AreTrees-moved : is_some (row_at scopes s.0) ≡ true → ((q : ScopeId) → p ≡ Some q → is_some (row_at scopes q.0) ≡ true) → ((q : ScopeId) → p ≡ Some q → is_among s (chain (parents scopes) (length scopes) q) ≡ false)
      → AreTrees scopes → AreTrees (changed_at (option_map (below p)) s.0 scopes)
  AreTrees-moved there around outside trees q live =
      subst (λ n. ends (parents (changed_at (option_map (below p)) s.0 scopes)) n q ≡ true) (sym (length-changed_at _ s.0 scopes))
      (ends-moved (parents scopes) (parents (changed_at (option_map (below p)) s.0 scopes)) s p (moved-at there) moved-elsewhere (length scopes) (length scopes) (length scopes)
      (λ x h. parents-below scopes x (is_some-parents scopes x ∙ sym (moved-there x) ∙ sym (is_some-parents _ x) ∙ h))
      (top p around outside)
      q (trees q (sym (moved-there q) ∙ live)))
    where
      top : (o : Option ScopeId) → ((q : ScopeId) → o ≡ Some q → is_some (row_at scopes q.0) ≡ true) → ((q : ScopeId) → o ≡ Some q → is_among s (chain (parents scopes) (length scopes) q) ≡ false)
          → ends_from (Some o) (ends (parents (changed_at (option_map (below p)) s.0 scopes)) (length scopes)) ≡ true
      top None around outside = refl
      top (Some r) around outside = ends-beside (parents scopes) (parents (changed_at (option_map (below p)) s.0 scopes)) s p (moved-at there) moved-elsewhere (length scopes) r (trees r (around r refl)) (outside r refl)

pub IsTable-moved : (t : Table) (s : ScopeId) (p : Option ScopeId) → IsTable t → is_some (row_at t.scopes s.0) ≡ true → ((q : ScopeId) → p ≡ Some q → is_some (row_at t.scopes q.0) ≡ true) → ((q : ScopeId) → p ≡ Some q → Contains (chain (parents t.scopes) (length t.scopes) q) s → ⊥)
    → IsTable (record t { scopes = changed_at (option_map (below p)) s.0 t.scopes })
IsTable-moved t s p h there around outside = record {
  trees = AreTrees-moved t.scopes s p there around (λ q e. not_among q (λ c. outside q e c)) h.trees;
  named = AreNamed-changed (below p) s.0 t.scopes t.symbols (λ x. refl) h.named;
  targets = h.targets;
  listed = h.listed;
}
  where
    not_among : (q : ScopeId) → (Contains (chain (parents t.scopes) (length t.scopes) q) s → ⊥) → is_among s (chain (parents t.scopes) (length t.scopes) q) ≡ false
    not_among q away = elim (is_among s (chain (parents t.scopes) (length t.scopes) q)) as (λ b. is_among s (chain (parents t.scopes) (length t.scopes) q) ≡ b → b ≡ false) [
      | true ↦ λ m. absurd (away (Contains-among s (chain (parents t.scopes) (length t.scopes) q) m))
      | false ↦ λ _. refl
    ] refl

-- ---- a scope removed

module _ (scopes : List (Option Scope)) (s : ScopeId) (up : Option ScopeId) where
  abbrev without : List (Option Scope)
  without = changed_at (λ row. None) s.0 (map (option_map (lifted s up)) scopes)

  row_at-map : (f : Scope → Scope) (rows : List (Option Scope)) (i : ℕ) → row_at (map (option_map f) rows) i ≡ option_map f (row_at rows i)
  row_at-map f [] i = refl
  row_at-map f (x ∷ rows) zero = refl
  row_at-map f (x ∷ rows) (suc i) = row_at-map f rows i

  gone : (o : Option (Option Scope)) → row_of (option_map (λ row. None) o) ≡ None
  gone None = refl
  gone (Some x) = refl

  without-at : row_at without s.0 ≡ None
  without-at = ap row_of (slice_get-changed_at_same (λ row. None) s.0 (map (option_map (lifted s up)) scopes)) ∙ gone (slice_get (map (option_map (lifted s up)) scopes) s.0)

  pub without-elsewhere : (i : ℕ) → i ≢ s.0 → row_at without i ≡ option_map (lifted s up) (row_at scopes i)
  without-elsewhere i apart = row_at-changed_other (λ row. None) s.0 i (map (option_map (lifted s up)) scopes) apart ∙ row_at-map (lifted s up) scopes i

  lifted_of : (o : Option Scope) → option_map (λ x. x.parent) (option_map (lifted s up) o) ≡ lifted_parent s up (option_map (λ x. x.parent) o)
  lifted_of None = refl
  lifted_of (Some x) = by x.parent
    where
      by : (p : Option ScopeId) → Some (cond (is_scope s p) up p) ≡ lifted_parent s up (Some p)
      by None = refl
      by (Some p) = elim (nat_eq s.0 p.0) as (λ b. Some (cond b up (Some p)) ≡ cond b (Some up) (Some (Some p))) [ true ↦ refl | false ↦ refl ]

  live_from : (q : ScopeId) → is_some (row_at without q.0) ≡ true → (q.0 ≢ s.0) × (is_some (row_at scopes q.0) ≡ true)
  live_from q live = elim (same_or_other q.0 s.0) [
    | inl same ↦ absurd (true≢false (sym live ∙ ap (λ i. is_some (row_at without i)) same ∙ ap is_some without-at))
    | inr apart ↦ (apart, sym (ap is_some (without-elsewhere q.0 apart) ∙ is_some-option_map (lifted s up) (row_at scopes q.0)) ∙ live)
  ]

  len-without : length without ≡ length scopes
  len-without = length-changed_at (λ row. None) s.0 (map (option_map (lifted s up)) scopes) ∙ simp length-map

  pub AreTrees-without : parents scopes s ≡ Some up → AreTrees scopes → AreTrees without
  AreTrees-without was trees q live =
      let from = live_from q live in
      subst (λ n. ends (parents without) n q ≡ true) (sym len-without)
      (ends-lifted (parents scopes) (parents without) s up was
      (λ x apart. ap (λ o. option_map (λ x. x.parent) o) (without-elsewhere x.0 apart) ∙ lifted_of (row_at scopes x.0))
      (length scopes) q (trees q from.1) from.0)

  names_of-lifted : (o : Option Scope) → names_of_row (option_map (lifted s up) o) ≡ names_of_row o
  names_of-lifted None = refl
  names_of-lifted (Some x) = refl

  pub AreNamed-without : (symbols : List Symbol) → names_of_row (row_at scopes s.0) ≡ [] → AreNamed scopes symbols → AreNamed without symbols
  AreNamed-without symbols empty = AreNamed-same scopes without symbols (λ q. elim (same_or_other q.0 s.0) [
    | inl same ↦ ap (λ i. names_of_row (row_at without i)) same ∙ ap names_of_row without-at ∙ sym empty ∙ ap (λ i. names_of_row (row_at scopes i)) (sym same)
    | inr apart ↦ ap names_of_row (without-elsewhere q.0 apart) ∙ names_of-lifted (row_at scopes q.0)
  ])

some_parent : (o : Option (Option ScopeId)) → is_some (option_and_then (λ p. p) o) ≡ true → o ≡ Some (option_and_then (λ p. p) o)
some_parent None h = absurd (true≢false (sym h))
some_parent (Some p) h = refl

pub IsTable-without : (t : Table) (s : ScopeId) → IsTable t → is_some (parent_of t s) ≡ true → names_of_row (row_at t.scopes s.0) ≡ [] → IsTable (without_scope t s)
IsTable-without t s h below empty = record {
  trees = AreTrees-without t.scopes s (parent_of t s) (some_parent (parents t.scopes s) below) h.trees;
  named = AreNamed-without t.scopes s (parent_of t s) t.symbols empty h.named;
  targets = h.targets;
  listed = h.listed;
}
