-- Whether a symbol is mutated, as a test.
use Rattle.std.proofs.Common.{◌≡◌, refl, sym, ap, ◌∙◌, ℕ, List, [], ◌∷◌, Bool, true, false, true≢false, Option, Some, None, ◌⊎◌, inl, inr}
use Rattle.std.specs.Prelude.{◌↔◌, ◌||◌, MatchOption, slice_get}
use Rattle.std.specs.FinSet as set
use Rattle.std.specs.List.{list_any}
use Rattle.std.specs.Option.{option_map_or}
use Rattle.std.specs.Ordering.{nat_cmp, eq_by_cmp}
use Rattle.std.specs.Cmp.{unsigned_tied}
use Rattle.std.proofs.lemmas.Bool.Decides.{Decides-eqb}
use Rattle.es_base.specs.declared.ids.SymbolId.{SymbolId}
use Rattle.es_duplicates.specs.Repetition.{is_mutated}
use Rattle.es_scopes.specs.References.{HoldsWrite, writes}
use Rattle.es_scopes.specs.ReferenceNumbers.{ReferenceNumbers}
use Rattle.es_scopes.specs.Table.{Table, IsMutated, symbol_at}
use Rattle.es_scopes.specs.declared.table.Reference.{Reference}
use Rattle.es_scopes.specs.declared.table.Symbol.{Symbol}

-- two tests of one fact
pub same_test : {P : Type 0} {a b : Bool} → (a ≡ true) ↔ P → (b ≡ true) ↔ P → a ≡ b
same_test {a = true} {b = true} f g = refl
same_test {a = true} {b = false} f g = sym (g.1 (f.0 refl))
same_test {a = false} {b = true} f g = f.1 (g.0 refl)
same_test {a = false} {b = false} f g = refl

or_true : (b : Bool) → (b || true) ≡ true
or_true true = refl
or_true false = refl

-- an element of a list that passes a test
abbrev Passes : (ℕ → Bool) → List ℕ → Type 0
Passes p xs = (x : ℕ) × (list_any (eq_by_cmp nat_cmp x) xs ≡ true) × (p x ≡ true)

later : (p : ℕ → Bool) (x : ℕ) (xs : List ℕ) → Passes p xs → Passes p (x ∷ xs)
later p x xs below = (below.0, ap (λ b. eq_by_cmp nat_cmp below.0 x || b) below.1 ∙ or_true (eq_by_cmp nat_cmp below.0 x), below.2)

any-passes : (p : ℕ → Bool) (xs : List ℕ) → list_any p xs ≡ true → Passes p xs
any-passes p [] h = absurd (true≢false (sym h))
any-passes p (x ∷ xs) h = elim (p x) as (λ b. p x ≡ b → (b || list_any p xs) ≡ true → Passes p (x ∷ xs)) [
  | true ↦ λ is _. (x, ap (λ b. b || list_any (eq_by_cmp nat_cmp x) xs) (unsigned_tied x x ∙ (Decides-eqb x x).1 refl), is)
  | false ↦ λ _ rest. later p x xs (any-passes p xs rest)
] refl h

passes-any : (p : ℕ → Bool) (x : ℕ) (xs : List ℕ) → list_any (eq_by_cmp nat_cmp x) xs ≡ true → p x ≡ true → list_any p xs ≡ true
passes-any p x [] h is = absurd (true≢false (sym h))
passes-any p x (y ∷ ys) h is = elim (eq_by_cmp nat_cmp x y) as (λ b. eq_by_cmp nat_cmp x y ≡ b → (b || list_any (eq_by_cmp nat_cmp x) ys) ≡ true → (p y || list_any p ys) ≡ true) [
  | true ↦ λ same _. ap (λ b. b || list_any p ys) (ap p (sym ((Decides-eqb x y).0 (sym (unsigned_tied x y) ∙ same))) ∙ is)
  | false ↦ λ _ rest. ap (λ b. p y || b) (passes-any p x ys rest is) ∙ or_true (p y)
] refl h

holds_write : (s : ReferenceNumbers) (references : List Reference) → (list_any (λ r. writes (slice_get references r)) (set.items s) ≡ true) ↔ HoldsWrite s references
holds_write s references = (
  λ h. (let found = any-passes (λ r. writes (slice_get references r)) (set.items s) h in (found.0, set.contains-items s found.0 ∙ found.1, found.2)),
  λ h. passes-any (λ r. writes (slice_get references r)) h.0 (set.items s) (sym (set.contains-items s h.0) ∙ h.1) h.2,
)

either : {P : Type 0} (a b : Bool) → (b ≡ true) ↔ P → ((a || b) ≡ true) ↔ ((a ≡ true) ⊎ P)
either true b f = (λ _. inl refl, λ _. refl)
either false b f = (λ h. inr (f.0 h), λ h. elim h [ inl marked ↦ absurd (true≢false (sym marked)) | inr p ↦ f.1 p ])

of_row : (references : List Reference) (row : Option Symbol) → (option_map_or (λ x. x.is_marked || list_any (λ r. writes (slice_get references r)) (set.items x.references)) row false ≡ true) ↔ MatchOption row ⊥ (λ x. (x.is_marked ≡ true) ⊎ HoldsWrite x.references references)
of_row references None = (λ h. true≢false (sym h), λ h. absurd h)
of_row references (Some x) = either x.is_marked (list_any (λ r. writes (slice_get references r)) (set.items x.references)) (holds_write x.references references)

pub is_mutated-decides : (t : Table) (y : SymbolId) → (is_mutated t y ≡ true) ↔ IsMutated t y
is_mutated-decides t y = of_row t.references (symbol_at t y)
