-- New references to names of a class, by the numbers of the functions around.
use Rattle.std.proofs.Common.{◌≡◌, refl, ap, ap₂, ℕ, List, [], ◌∷◌, ◌++◌, map, Bool, true, false, cond, ◌&&◌, ◌||◌}
use Rattle.std.specs.List.{list_any}
use Rattle.std.specs.Prelude.{nat_eq}
use Rattle.es_base.specs.Preorder.{number_of, preorder}
use Rattle.es_base.specs.Tree.{Tree}
use Rattle.es_lowered.specs.ClassNames.{all_stand_with_class, are_of_class, holds_class, numbers_of}
use Rattle.es_lowered.specs.FunctionsAround.{PlacedReference}
use Rattle.es_owed.specs.Listed.{numbered}
use Rattle.es_steps.specs.References.{has_number}

pub numbered_among : (n : ℕ) (ts : List Tree) → list_any (λ t. nat_eq n (number_of t)) ts ≡ has_number n (map number_of ts)
numbered_among n [] = refl
numbered_among n (t ∷ ts) = ap (λ b. nat_eq n (number_of t) || b) (numbered_among n ts)

pub held_numbered : (k n : ℕ) (ts : List Tree) → list_any (λ t. has_number n (numbers_of (preorder t))) (numbered k ts) ≡ holds_class k n ts
held_numbered k n [] = refl
held_numbered k n (t ∷ ts) = here (nat_eq k (number_of t)) (held_numbered k n ts)
  where
    here : (b : Bool) → list_any (λ u. has_number n (numbers_of (preorder u))) (numbered k ts) ≡ holds_class k n ts → list_any (λ u. has_number n (numbers_of (preorder u))) (cond b (t ∷ []) [] ++ numbered k ts) ≡ ((b && has_number n (numbers_of (preorder t))) || holds_class k n ts)
    here true h = ap (λ b. has_number n (numbers_of (preorder t)) || b) h
    here false h = h

-- ---- the numbers that are of the class

same_of_class : (n : ℕ) (ns ks : List ℕ) (qs : List Tree) (xs : List (ℕ × ℕ)) → ((k : ℕ) → has_number k ns ≡ has_number k ks) → are_of_class n ns qs xs ≡ are_of_class n ks qs xs
same_of_class n ns ks qs [] same = refl
same_of_class n ns ks qs (x ∷ xs) same = ap₂ (λ b c. (b || holds_class x.0 n qs) && c) (same x.0) (same_of_class n ns ks qs xs same)

pub same_inside : (n : ℕ) (ns ks : List ℕ) (qs : List Tree) (rs : List PlacedReference) → ((k : ℕ) → has_number k ns ≡ has_number k ks) → all_stand_with_class n ns qs rs ≡ all_stand_with_class n ks qs rs
same_inside n ns ks qs [] same = refl
same_inside n ns ks qs (r ∷ rs) same = ap₂ (λ b c. b && c) (same_of_class n ns ks qs r.around same) (same_inside n ns ks qs rs same)
