-- A program is numbered exactly where its numbers pass the tests.
use Rattle.std.proofs.Common.{◌≡◌, refl, sym, subst, ap, ◌∙◌, true≢false, ℕ, ◌+◌, List, [], ◌∷◌, Bool, true, false, arith, Some, None}
use Rattle.std.specs.List.{IsDistinct, AllByRecursion}
use Rattle.std.specs.Prelude.{◌&&◌, ◌||◌, cond, filter, nat_eq, not}
use Rattle.std.proofs.lemmas.Bool.Decides.{nat_tests}
use Rattle.es_base.specs.Numbered.{AreConsecutive, EachOnce, IsNumbered, is_new, numbers}
use Rattle.es_base.specs.Tree.{Tree}
use Rattle.es_steps.specs.References.{has_number}
use Rattle.es_owed.specs.Numbers.{are_distinct, consecutive_from}

same : (m n : ℕ) → nat_eq m n ≡ true → m ≡ n
same m n test = grind (arith, nat_tests, test)

together : (m n : ℕ) → m ≡ n → nat_eq m n ≡ true
together m n e = grind (arith, e)

-- ---- in turn

if_one : (first n k : ℕ) (ks : List ℕ) (new same_as : Bool) → nat_eq k n ≡ same_as → (consecutive_from first (Some (k + 1)) ks ≡ true → AreConsecutive (k + 1) (filter (is_new first) ks)) → (consecutive_from first (Some n) ks ≡ true → AreConsecutive n (filter (is_new first) ks))
    → consecutive_from first (cond new (cond same_as (Some (k + 1)) None) (Some n)) ks ≡ true → AreConsecutive n (cond new (k ∷ filter (is_new first) ks) (filter (is_new first) ks))
if_one first n k ks true true e behind stays rest = (same k n e, subst (λ m. AreConsecutive (m + 1) (filter (is_new first) ks)) (same k n e) (behind rest))
if_one first n k ks true false e behind stays rest = absurd (true≢false (sym rest))
if_one first n k ks false same_as e behind stays rest = stays rest

if_consecutive : (first n : ℕ) (ks : List ℕ) → consecutive_from first (Some n) ks ≡ true → AreConsecutive n (filter (is_new first) ks)
if_consecutive first n [] test = tt
if_consecutive first n (k ∷ ks) test = if_one first n k ks (is_new first k) (nat_eq k n) refl (if_consecutive first (k + 1) ks) (if_consecutive first n ks) test

one_if : (first n k : ℕ) (ks : List ℕ) (new : Bool) → (AreConsecutive (n + 1) (filter (is_new first) ks) → consecutive_from first (Some (n + 1)) ks ≡ true) → (AreConsecutive n (filter (is_new first) ks) → consecutive_from first (Some n) ks ≡ true)
    → AreConsecutive n (cond new (k ∷ filter (is_new first) ks) (filter (is_new first) ks)) → consecutive_from first (cond new (cond (nat_eq k n) (Some (k + 1)) None) (Some n)) ks ≡ true
one_if first n k ks true behind stays are =
    ap (λ c. consecutive_from first (cond c (Some (k + 1)) None) ks) (together k n are.0)
    ∙ ap (λ m. consecutive_from first (Some (m + 1)) ks) are.0
    ∙ behind are.1
one_if first n k ks false behind stays are = stays are

consecutive_if : (first n : ℕ) (ks : List ℕ) → AreConsecutive n (filter (is_new first) ks) → consecutive_from first (Some n) ks ≡ true
consecutive_if first n [] are = refl
consecutive_if first n (k ∷ ks) are = one_if first n k ks (is_new first k) (consecutive_if first (n + 1) ks) (consecutive_if first n ks) are

-- ---- once each

none_one : (k m : ℕ) (ms : List ℕ) (b : Bool) → nat_eq k m ≡ b → (has_number k ms ≡ false → AllByRecursion (λ y. nat_eq k y ≡ false) ms) → (b || has_number k ms) ≡ false → (nat_eq k m ≡ false) × AllByRecursion (λ y. nat_eq k y ≡ false) ms
none_one k m ms true e behind rest = absurd (true≢false rest)
none_one k m ms false e behind rest = (e, behind rest)

none_same : (k : ℕ) (ks : List ℕ) → has_number k ks ≡ false → AllByRecursion (λ y. nat_eq k y ≡ false) ks
none_same k [] test = tt
none_same k (m ∷ ms) test = none_one k m ms (nat_eq k m) refl (none_same k ms) test

same_none : (k : ℕ) (ks : List ℕ) → AllByRecursion (λ y. nat_eq k y ≡ false) ks → has_number k ks ≡ false
same_none k [] all = refl
same_none k (m ∷ ms) all = ap (λ b. b || has_number k ms) all.0 ∙ same_none k ms all.1

distinct_one : (k : ℕ) (ks : List ℕ) (b : Bool) → has_number k ks ≡ b → (are_distinct ks ≡ true → EachOnce ks) → (not b && are_distinct ks) ≡ true → AllByRecursion (λ y. nat_eq k y ≡ false) ks × EachOnce ks
distinct_one k ks true e behind rest = absurd (true≢false (sym rest))
distinct_one k ks false e behind rest = (none_same k ks e, behind rest)

if_distinct : (ks : List ℕ) → are_distinct ks ≡ true → EachOnce ks
unfolding IsDistinct
if_distinct [] test = tt
if_distinct (k ∷ ks) test = distinct_one k ks (has_number k ks) refl (if_distinct ks) test

distinct_if : (ks : List ℕ) → EachOnce ks → are_distinct ks ≡ true
unfolding IsDistinct
distinct_if [] once = refl
distinct_if (k ∷ ks) once = ap (λ b. not b && are_distinct ks) (same_none k ks once.0) ∙ distinct_if ks once.1

-- ---- both

both : (b c : Bool) → (b && c) ≡ true → (b ≡ true) × (c ≡ true)
both true c test = (refl, test)
both false c test = absurd (true≢false (sym test))

pub if_numbered : (first : ℕ) (t : Tree) → (consecutive_from first (Some first) (numbers t) && are_distinct (numbers t)) ≡ true → IsNumbered first t
if_numbered first t test =
    let parts : (consecutive_from first (Some first) (numbers t) ≡ true) × (are_distinct (numbers t) ≡ true) = both (consecutive_from first (Some first) (numbers t)) (are_distinct (numbers t)) test in
    record { once = if_distinct (numbers t) parts.1; consecutive = if_consecutive first first (numbers t) parts.0 }

pub numbered_if : (first : ℕ) (t : Tree) → IsNumbered first t → (consecutive_from first (Some first) (numbers t) && are_distinct (numbers t)) ≡ true
numbered_if first t is =
    ap (λ b. b && are_distinct (numbers t)) (consecutive_if first first (numbers t) is.consecutive) ∙ distinct_if (numbers t) is.once
