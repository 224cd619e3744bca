-- The least of numbers, met one at a time, is the least of all.
use Rattle.std.proofs.Common.{◌≡◌, refl, ℕ, List, [], ◌∷◌, ◌++◌, cond, nat_le, Option, Some, None}
use Rattle.es_steps.specs.FirstForm.{least, least_of}
use Rattle.class_properties.specs.Least.{lower, least_with}

pub least_with_append : (n : Option ℕ) (ks ls : List ℕ) → least_with n (ks ++ ls) ≡ least_with (least_with n ks) ls
least_with_append n [] ls = refl
least_with_append n (k ∷ ks) ls = least_with_append (lower n k) ks ls

least_with_some : (n : ℕ) (ks : List ℕ) → Some (least_of n ks) ≡ least_with (Some n) ks
least_with_some n [] = refl
least_with_some n (k ∷ ks) = least_with_some (cond (nat_le n k) n k) ks

pub least_is : (ks : List ℕ) → least ks ≡ least_with None ks
least_is [] = refl
least_is (k ∷ ks) = least_with_some k ks
