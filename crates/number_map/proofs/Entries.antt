-- The value of a number stands at its place in the list, or in the hash table if it has none.
use Rattle.std.proofs.Common.{◌≡◌, refl, sym, ap, ◌∙◌, arith, ℕ, suc, ◌-◌, ◌<◌, ◌≤◌, List, [], ◌∷◌, ◌++◌, Bool, true, false, true≢false, subst, cond, ◌&&◌, filter, is_none, length, get_or, set, nat_eq, nat_le, nat_lt, Option, None, Some, inl, inr}
use Rattle.std.proofs.lemmas.Bool.{cases_Bool, eqb-true}
use Rattle.std.proofs.lemmas.Bool.Decides.{nat_tests}
use Rattle.std.proofs.lemmas.Map.Entries.{lookup-filter-keys}
use Rattle.std.proofs.lemmas.List.{get_or-set_same, get_or-set_other, length-set}
use Rattle.std.proofs.Math.ListN.{get_or-eq_default}
use Rattle.std.specs.Global.{Vec}
use Rattle.std.specs.Map.{lookup}
use Rattle.number_map.specs.Entries.{entries_from, entries_of, place_of, value_at}

-- ---- places

and_true : (a b : Bool) → (a && b) ≡ true → (a ≡ true) × (b ≡ true)
and_true true b e = (refl, e)
and_true false b e = absurd (true≢false (sym e))

abbrev number_or : Option ℕ → ℕ
number_or None = 0
number_or (Some i) = i

none≢some : (i : ℕ) → None ≡ Some i → ⊥
none≢some i e = true≢false (ap is_none e)

placed : (k n count i : ℕ) → place_of k n count ≡ Some i → (n ≤ k) × (k - n ≡ i) × (i < count)
placed k n count i place = here (nat_le n k && nat_lt (k - n) count) refl place
  where
    here : (b : Bool) → (nat_le n k && nat_lt (k - n) count) ≡ b → cond b (Some (k - n)) None ≡ Some i → (n ≤ k) × (k - n ≡ i) × (i < count)
    here true tests e =
        let both = and_true (nat_le n k) (nat_lt (k - n) count) tests in
        let at : k - n ≡ i = ap number_or e in
        let below : n ≤ k = grind (arith, nat_tests, both.0) in
        let within : k - n < count = grind (arith, nat_tests, both.1) in
        (below, at, subst (λ j. j < count) at within)
    here false tests e = absurd (none≢some i e)

pub placed_within : (k n count i : ℕ) → place_of k n count ≡ Some i → i < count
placed_within k n count i place = (placed k n count i place).2

-- the place in a list, of what the code computes from its length
pub placed_in : {X : Type 0} (xs : Vec X) (k n count : ℕ) (place here : Option ℕ) → count ≡ xs.len → place ≡ place_of k n count → place ≡ here → place_of k n (length xs.items) ≡ here
placed_in xs k n count place here long computed is = ap (place_of k n) (sym xs.ok.0 ∙ sym long) ∙ sym computed ∙ is

-- ---- values

module _ {V : Type 0} where
  -- the first of two that is there
  abbrev or : Option V → Option V → Option V
  or None o = o
  or (Some v) o = Some v

  lookup-append : (test : ℕ → Bool) (es fs : List (ℕ × V)) → lookup test (es ++ fs) ≡ or (lookup test es) (lookup test fs)
  lookup-append test [] fs = refl
  lookup-append test (e ∷ es) fs = here (test e.0) (lookup-append test es fs)
    where
      here : (b : Bool) → lookup test (es ++ fs) ≡ or (lookup test es) (lookup test fs) → cond b (Some e.1) (lookup test (es ++ fs)) ≡ or (cond b (Some e.1) (lookup test es)) (lookup test fs)
      here true h = refl
      here false h = h

  -- the value of the number k in a list that begins with n
  abbrev near_at : ℕ → ℕ → List (Option V) → Option V
  near_at k n xs = cond (nat_le n k) (get_or xs (k - n) None) None

  none-either : (b : Bool) → None ≡ cond {A = Option V} b None None
  none-either true = refl
  none-either false = refl

  near_at-more : (k n : ℕ) (x : Option V) (xs : List (Option V)) → cond (nat_eq k n) x (near_at k (suc n) xs) ≡ near_at k n (x ∷ xs)
  near_at-more k n x xs = elim (cases_Bool (nat_eq k n)) [
    | inl here ↦
        let below : nat_le n k ≡ true = grind (arith, nat_tests) in
        let at : k - n ≡ 0 = grind (arith, nat_tests) in
        rw (here, below, at) refl
    | inr other ↦
        elim (cases_Bool (nat_le n k)) [
          | inl below ↦
              let behind : nat_le (suc n) k ≡ true = grind (arith, nat_tests) in
              let at : k - n ≡ suc (k - suc n) = grind (arith, nat_tests) in
              rw (other, below, behind, at) refl
          | inr above ↦
              let behind : nat_le (suc n) k ≡ false = grind (arith, nat_tests) in
              rw (other, above, behind) refl
        ]
  ]

  -- before its place a number has no value
  near_at-before : (k n : ℕ) (xs : List (Option V)) → near_at k (suc n) xs ≡ cond (nat_eq k n) None (near_at k (suc n) xs)
  near_at-before k n xs = elim (cases_Bool (nat_eq k n)) [
    | inl here ↦
        let behind : nat_le (suc n) k ≡ false = grind (arith, nat_tests) in
        rw (here, behind) refl
    | inr other ↦ rw other refl
  ]

  near_at-lookup : (k n : ℕ) (xs : List (Option V)) → lookup (nat_eq k) (entries_from n xs) ≡ near_at k n xs
  near_at-lookup k n [] = none-either (nat_le n k)
  near_at-lookup k n (None ∷ xs) = near_at-lookup k (suc n) xs ∙ near_at-before k n xs ∙ near_at-more k n None xs
  near_at-lookup k n (Some v ∷ xs) = ap (cond (nat_eq k n) (Some v)) (near_at-lookup k (suc n) xs) ∙ near_at-more k n (Some v) xs

  -- what stands at a place, or the other value where there is no place
  abbrev at_or : Option ℕ → List (Option V) → Option V → Option V
  at_or None xs other = other
  at_or (Some i) xs other = get_or xs i None

  near_or : (k n : ℕ) (xs : List (Option V)) (other : Option V) → or (near_at k n xs) (cond (is_none (place_of k n (length xs))) other None) ≡ at_or (place_of k n (length xs)) xs other
  near_or k n xs other = elim (cases_Bool (nat_le n k)) [
    | inl below ↦
        elim (cases_Bool (nat_lt (k - n) (length xs))) [
          | inl within ↦ rw (below, within) (alone (get_or xs (k - n) None))
          | inr outside ↦
              let past : length xs ≤ k - n = grind (arith, nat_tests) in
              rw (below, outside, get_or-eq_default xs None past) refl
        ]
    | inr above ↦ rw above refl
  ]
    where
      alone : (o : Option V) → or o None ≡ o
      alone None = refl
      alone (Some v) = refl

  value_at-placed : (k n : ℕ) (xs : List (Option V)) (far : List (ℕ × V)) → value_at k (entries_of n xs far) ≡ at_or (place_of k n (length xs)) xs (lookup (nat_eq k) far)
  value_at-placed k n xs far =
      lookup-append (nat_eq k) (entries_from n xs) (filter (λ e. is_far e.0) far)
      ∙ ap (λ o. or o (lookup (nat_eq k) (filter (λ e. is_far e.0) far))) (near_at-lookup k n xs)
      ∙ ap (or (near_at k n xs)) (lookup-filter-keys (nat_eq k) is_far (is_far k) (λ m same. ap is_far (sym (eqb-true k m same))) far)
      ∙ near_or k n xs (lookup (nat_eq k) far)
    where
      is_far : ℕ → Bool
      is_far m = is_none (place_of m n (length xs))

  pub value_at-near : (k n i : ℕ) (xs : List (Option V)) (far : List (ℕ × V)) → place_of k n (length xs) ≡ Some i → value_at k (entries_of n xs far) ≡ get_or xs i None
  value_at-near k n i xs far place = value_at-placed k n xs far ∙ ap (λ p. at_or p xs (lookup (nat_eq k) far)) place

  pub value_at-far : (k n : ℕ) (xs : List (Option V)) (far : List (ℕ × V)) → place_of k n (length xs) ≡ None → value_at k (entries_of n xs far) ≡ lookup (nat_eq k) far
  value_at-far k n xs far none = value_at-placed k n xs far ∙ ap (λ p. at_or p xs (lookup (nat_eq k) far)) none

  pub value_at-none : (k n : ℕ) (xs : List (Option V)) → ((i : ℕ) → get_or xs i None ≡ None) → value_at k (entries_of n xs []) ≡ None
  value_at-none k n xs empty = value_at-placed k n xs [] ∙ here (place_of k n (length xs))
    where
      here : (p : Option ℕ) → at_or p xs None ≡ None
      here None = refl
      here (Some i) = empty i

  -- ---- a value at a place

  pub value_at-set : (k n i : ℕ) (v : Option V) (xs : List (Option V)) (far : List (ℕ × V)) → place_of k n (length xs) ≡ Some i → (m : ℕ) → value_at m (entries_of n (set xs i v) far) ≡ cond (nat_eq m k) v (value_at m (entries_of n xs far))
  value_at-set k n i v xs far place m =
      value_at-placed m n (set xs i v) far
      ∙ ap (λ c. at_or (place_of m n c) (set xs i v) (lookup (nat_eq m) far)) (length-set xs i v)
      ∙ elim (cases_Bool (nat_eq m k)) [
        | inl same ↦
            ap (λ p. at_or p (set xs i v) (lookup (nat_eq m) far)) (ap (λ j. place_of j n (length xs)) (eqb-true m k same) ∙ place)
            ∙ get_or-set_same xs i v None (placed k n (length xs) i place).2
            ∙ sym (ap (λ b. cond b v (value_at m (entries_of n xs far))) same)
        | inr other ↦
            apart (place_of m n (length xs)) refl other
            ∙ sym (value_at-placed m n xs far)
            ∙ sym (ap (λ b. cond b v (value_at m (entries_of n xs far))) other)
      ]
    where
      one_number : (m k n i j : ℕ) → n ≤ k → n ≤ m → k - n ≡ i → m - n ≡ j → j ≡ i → m ≡ k
      one_number m k n i j a b c d e = omega (arith, a, b, c, d, e)

      equal : (m k : ℕ) → m ≡ k → nat_eq m k ≡ true
      equal m k e = grind (arith, nat_tests)

      apart : (p : Option ℕ) → place_of m n (length xs) ≡ p → nat_eq m k ≡ false → at_or p (set xs i v) (lookup (nat_eq m) far) ≡ at_or p xs (lookup (nat_eq m) far)
      apart None at other = refl
      apart (Some j) at other =
          let one = placed k n (length xs) i place in
          let two = placed m n (length xs) j at in
          get_or-set_other xs i j v None (λ e. true≢false (sym (equal m k (one_number m k n i j one.0 two.0 one.1 two.1 e)) ∙ other))

  -- ---- a value elsewhere

  pub value_at-updated : (k n : ℕ) (v : Option V) (xs : List (Option V)) (far after : List (ℕ × V)) → place_of k n (length xs) ≡ None → ((q : ℕ) → lookup (nat_eq q) after ≡ cond (nat_eq k q) v (lookup (nat_eq q) far))
      → (m : ℕ) → value_at m (entries_of n xs after) ≡ cond (nat_eq m k) v (value_at m (entries_of n xs far))
  value_at-updated k n v xs far after none updates m =
      value_at-placed m n xs after
      ∙ ap (at_or (place_of m n (length xs)) xs) (updates m ∙ ap (λ b. cond b v (lookup (nat_eq m) far)) (turned k m))
      ∙ here (nat_eq m k) refl (place_of m n (length xs)) refl
      ∙ sym (ap (cond (nat_eq m k) v) (value_at-placed m n xs far))
    where
      turned : (a b : ℕ) → nat_eq a b ≡ nat_eq b a
      turned a b = grind (arith, nat_tests)

      here : (b : Bool) → nat_eq m k ≡ b → (p : Option ℕ) → place_of m n (length xs) ≡ p → at_or p xs (cond b v (lookup (nat_eq m) far)) ≡ cond b v (at_or p xs (lookup (nat_eq m) far))
      here true same None at = refl
      here true same (Some j) at = absurd (none≢some j (sym none ∙ ap (λ q. place_of q n (length xs)) (sym (eqb-true m k same)) ∙ at))
      here false other None at = refl
      here false other (Some j) at = refl
