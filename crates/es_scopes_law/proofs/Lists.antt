-- What stands in a list.
use Rattle.std.proofs.Common.{◌≡◌, refl, ap, ℕ, zero, suc, ◌<◌, ◌⊎◌, inl, inr, List, [], ◌∷◌, ◌++◌, map, length, Some, arith}
use Rattle.std.specs.Prelude.{Contains, slice_get, slice_index_or}

abbrev pub In : {X : Type 0} → X → List X → Type 0
In x [] = ⊥
In x (y ∷ ys) = (y ≡ x) ⊎ In x ys

pub in-left : {X : Type 0} (x : X) (xs ys : List X) → In x xs → In x (xs ++ ys)
in-left x [] ys h = absurd h
in-left x (y ∷ xs) ys (inl e) = inl e
in-left x (y ∷ xs) ys (inr h) = inr (in-left x xs ys h)

pub in-right : {X : Type 0} (x : X) (xs ys : List X) → In x ys → In x (xs ++ ys)
in-right x [] ys h = h
in-right x (y ∷ xs) ys h = inr (in-right x xs ys h)

pub in-cases : {X : Type 0} (x : X) (xs ys : List X) → In x (xs ++ ys) → In x xs ⊎ In x ys
in-cases x [] ys h = inr h
in-cases x (y ∷ xs) ys (inl e) = inl (inl e)
in-cases x (y ∷ xs) ys (inr h) = elim (in-cases x xs ys h) [
  | inl k ↦ inl (inr k)
  | inr k ↦ inr k
]

pub in-map : {X Y : Type 0} (f : X → Y) (x : X) (xs : List X) → In x xs → In (f x) (map f xs)
in-map f x [] h = h
in-map f x (y ∷ xs) (inl e) = inl (ap f e)
in-map f x (y ∷ xs) (inr h) = inr (in-map f x xs h)

pub from-map : {X Y : Type 0} (f : X → Y) (y : Y) (xs : List X) → In y (map f xs) → (x : X) × (In x xs) × (f x ≡ y)
from-map f y [] h = absurd h
from-map f y (x ∷ xs) (inl e) = (x, inl refl, e)
from-map f y (x ∷ xs) (inr h) = let rest = from-map f y xs h in (rest.0, inr rest.1, rest.2)

pub in-at : {X : Type 0} (x : X) (xs : List X) → In x xs → (k : ℕ) × (slice_get xs k ≡ Some x)
in-at x [] h = absurd h
in-at x (y ∷ xs) (inl e) = (zero, ap (λ z. Some z) e)
in-at x (y ∷ xs) (inr h) = let rest = in-at x xs h in (suc rest.0, rest.1)

pub at-in : {X : Type 0} (x : X) (xs : List X) (k : ℕ) → slice_get xs k ≡ Some x → In x xs
at-in x [] k h = absurd (cc h)
at-in x (y ∷ xs) zero h = inl (same y x h)
  where
    same : {X : Type 0} (a b : X) → Some a ≡ Some b → a ≡ b
    same a b e = cc
at-in x (y ∷ xs) (suc k) h = inr (at-in x xs k h)

indexed-in : {X : Type 0} (x : X) (xs : List X) (k : ℕ) → k < length xs → slice_index_or xs k x ≡ x → In x xs
indexed-in x [] k l e = absurd (omega arith)
indexed-in x (y ∷ xs) zero l e = inl e
indexed-in x (y ∷ xs) (suc k) l e = inr (indexed-in x xs k (omega arith) e)

pub in-Contains : {X : Type 0} (x : X) (xs : List X) → Contains xs x → In x xs
in-Contains x xs h = indexed-in x xs h.0 h.1 h.2
