-- Rows by their numbers: one changed, and one added.
use Rattle.std.proofs.Common.{◌≡◌, ◌≢◌, refl, sym, ap, ◌∙◌, ℕ, zero, suc, ◌<◌, ◌≤◌, List, [], ◌∷◌, ◌++◌, map, length, take, drop, set, get_or, Option, Some, None, true, false, true≢false, nat_eq, ◌⊎◌, inl, inr, arith}
use Rattle.std.specs.Prelude.{slice_get, option_map, is_some}
use Rattle.std.specs.Option.{option_and_then}
use Rattle.std.proofs.Math.Seq.{take-append_seam}
use Rattle.std.proofs.lemmas.Bool.Decides.{Decides-eqb}
use Rattle.es_scopes.specs.Table.{changed_at, row_at}

pub same_or_other : (i j : ℕ) → (i ≡ j) ⊎ (i ≢ j)
same_or_other i j = elim (nat_eq i j) as (λ b. nat_eq i j ≡ b → (i ≡ j) ⊎ (i ≢ j)) [
  | true ↦ λ t. inl ((Decides-eqb i j).0 t)
  | false ↦ λ f. inr (λ e. true≢false (sym ((Decides-eqb i j).1 e) ∙ f))
] refl

module _ {X : Type 0} where
  pub length-changed_at : (f : X → X) (i : ℕ) (xs : List X) → length (changed_at f i xs) ≡ length xs
  length-changed_at f i [] = refl
  length-changed_at f zero (x ∷ xs) = refl
  length-changed_at f (suc i) (x ∷ xs) = ap suc (length-changed_at f i xs)

  pub slice_get-changed_at_same : (f : X → X) (i : ℕ) (xs : List X) → slice_get (changed_at f i xs) i ≡ option_map f (slice_get xs i)
  slice_get-changed_at_same f i [] = refl
  slice_get-changed_at_same f zero (x ∷ xs) = refl
  slice_get-changed_at_same f (suc i) (x ∷ xs) = slice_get-changed_at_same f i xs

  pub slice_get-changed_at_other : (f : X → X) (i j : ℕ) (xs : List X) → j ≢ i → slice_get (changed_at f i xs) j ≡ slice_get xs j
  slice_get-changed_at_other f i j [] other = refl
  slice_get-changed_at_other f zero zero (x ∷ xs) other = absurd (other refl)
  slice_get-changed_at_other f zero (suc j) (x ∷ xs) other = refl
  slice_get-changed_at_other f (suc i) zero (x ∷ xs) other = refl
  slice_get-changed_at_other f (suc i) (suc j) (x ∷ xs) other = slice_get-changed_at_other f i j xs (λ e. other (ap suc e))

  -- a write by number
  pub set-changed_at : (f : X → X) (i : ℕ) (xs : List X) (x v : X) → i < length xs → x ≡ get_or xs i x → v ≡ f x → set xs i v ≡ changed_at f i xs
  set-changed_at f i [] x v within at is = absurd (omega arith)
  set-changed_at f zero (y ∷ xs) x v within at is = ap (λ z. z ∷ xs) (is ∙ ap f at)
  set-changed_at f (suc i) (y ∷ xs) x v within at is = ap (λ l. y ∷ l) (set-changed_at f i xs x v (omega arith) at is)

  pub slice_get-push_within : (xs : List X) (x : X) (i : ℕ) → i < length xs → slice_get (xs ++ x ∷ []) i ≡ slice_get xs i
  slice_get-push_within [] x i h = absurd (omega arith)
  slice_get-push_within (y ∷ xs) x zero h = refl
  slice_get-push_within (y ∷ xs) x (suc i) h = slice_get-push_within xs x i (omega arith)

  pub slice_get-push_last : (xs : List X) (x : X) → slice_get (xs ++ x ∷ []) (length xs) ≡ Some x
  slice_get-push_last [] x = refl
  slice_get-push_last (y ∷ xs) x = slice_get-push_last xs x

  -- what stands at a place of a list with one more was there, or is the last
  pub slice_get-push_cases : (xs : List X) (x y : X) (i : ℕ) → slice_get (xs ++ x ∷ []) i ≡ Some y → (slice_get xs i ≡ Some y) ⊎ ((i ≡ length xs) × (x ≡ y))
  slice_get-push_cases [] x y zero h = inr (refl, cc)
  slice_get-push_cases [] x y (suc i) h = cc
  slice_get-push_cases (z ∷ xs) x y zero h = inl h
  slice_get-push_cases (z ∷ xs) x y (suc i) h = elim (slice_get-push_cases xs x y i h) [ inl was ↦ inl was | inr last ↦ inr (ap suc last.0, last.1) ]

  pub within_from_some : (xs : List X) (i : ℕ) → is_some (slice_get xs i) ≡ true → i < length xs
  within_from_some [] i h = cc
  within_from_some (x ∷ xs) zero h = omega arith
  within_from_some (x ∷ xs) (suc i) h = let rest = within_from_some xs i h in omega arith

  pub some_from_within : (xs : List X) (i : ℕ) → i < length xs → is_some (slice_get xs i) ≡ true
  some_from_within [] i h = absurd (omega arith)
  some_from_within (x ∷ xs) zero h = refl
  some_from_within (x ∷ xs) (suc i) h = some_from_within xs i (omega arith)

  pub within_from_row : (xs : List (Option X)) (i : ℕ) → is_some (row_at xs i) ≡ true → i < length xs
  within_from_row [] i h = cc
  within_from_row (x ∷ xs) zero h = omega arith
  within_from_row (x ∷ xs) (suc i) h = let rest = within_from_row xs i h in omega arith

module _ {X Y : Type 0} where
  pub option_map-and_then : (f : X → Y) (o : Option (Option X)) → option_map f (option_and_then (λ r. r) o) ≡ option_and_then (λ r. r) (option_map (option_map f) o)
  option_map-and_then f None = refl
  option_map-and_then f (Some x) = refl

  pub is_some-option_map : (f : X → Y) (o : Option X) → is_some (option_map f o) ≡ is_some o
  is_some-option_map f None = refl
  is_some-option_map f (Some x) = refl

-- the rows before the i-th are changed; then it is too
pub mapped-step : {X : Type 0} (f : X → X) (xs : List X) (i : ℕ) (x v : X) → i < length xs → x ≡ get_or (map f (take i xs) ++ drop i xs) i x → v ≡ f x
    → set (map f (take i xs) ++ drop i xs) i v ≡ map f (take (suc i) xs) ++ drop (suc i) xs
mapped-step f [] i x v within at is = absurd (omega arith)
mapped-step f (y ∷ xs) zero x v within at is = ap (λ z. z ∷ xs) (is ∙ ap f at)
mapped-step f (y ∷ xs) (suc i) x v within at is = ap (λ l. f y ∷ l) (mapped-step f xs i x v (omega arith) at is)

-- a slice of a whole Vec, written back
pub written_back : {X : Type 0} (n : ℕ) (new old : List X) → length new ≡ n → take n (new ++ drop (length new) old) ≡ new
written_back n new old e = ap (λ m. take m (new ++ drop (length new) old)) (sym e) ∙ take-append_seam new (drop (length new) old)

pub set_constant : {X : Type 0} (v : X) (i : ℕ) (xs : List X) → i < length xs → set xs i v ≡ changed_at (λ x. v) i xs
set_constant v i [] within = absurd (omega arith)
set_constant v zero (x ∷ xs) within = refl
set_constant v (suc i) (x ∷ xs) within = ap (λ l. x ∷ l) (set_constant v i xs (omega arith))

pub changed_at_beyond : {X : Type 0} (f : X → X) (i : ℕ) (xs : List X) → length xs ≤ i → changed_at f i xs ≡ xs
changed_at_beyond f i [] beyond = refl
changed_at_beyond f zero (x ∷ xs) beyond = absurd (omega arith)
changed_at_beyond f (suc i) (x ∷ xs) beyond = ap (λ l. x ∷ l) (changed_at_beyond f i xs (omega arith))

pub set_changed : {X : Type 0} (f : X → X) (i : ℕ) (xs : List X) (d v : X) → i < length xs → v ≡ f (get_or xs i d) → set xs i v ≡ changed_at f i xs
set_changed f i [] d v within is = absurd (omega arith)
set_changed f zero (y ∷ xs) d v within is = ap (λ z. z ∷ xs) is
set_changed f (suc i) (y ∷ xs) d v within is = ap (λ l. y ∷ l) (set_changed f i xs d v (omega arith) is)
