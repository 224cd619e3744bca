-- How many candidates can be taken: each takes up one place of the list.
use Rattle.std.proofs.Common.{◌≡◌, refl, sym, ap, subst, ◌∙◌, Option, Some, None, ℕ, zero, suc, ◌+◌, ◌<◌, ◌≤◌, ◌^◌, List, [], ◌∷◌, ◌++◌, length, Bool, true, false, true≢false, cond, ◌||◌, arith}
use Rattle.std.specs.Prelude.{bytes_eq, decimal, nat_le, nat_lt, unwrap_or}
use Rattle.std.proofs.lemmas.Bool.Decides.{nat_tests, Decides-ltb}
use Rattle.std.proofs.lemmas.Slice.Eq.{bytes_eq-Decides}
use Rattle.std.proofs.lemmas.Fmt.{decimal_injective, decimal_nonempty}
use Rattle.es_base.specs.Conforms.{is_among}
use Rattle.es_names.specs.Candidates.{numeral, candidate, first_free_from, first_free_number, first_free}
use Rattle.es_names.specs.Taken.{Strings, Numbers, number_of, AreTakenBefore, AreNext, IsFirstFree, with_string}

-- ---- candidates of one base differ

abbrev tail : List ℕ → List ℕ
tail [] = []
tail (c ∷ cs) = cs

behind-same : (xs ys zs : List ℕ) → xs ++ ys ≡ xs ++ zs → ys ≡ zs
behind-same [] ys zs e = e
behind-same (x ∷ xs) ys zs e = behind-same xs ys zs (ap tail e)

numeral-injective : (i j : ℕ) → 1 ≤ i → 1 ≤ j → i < 2 ^ 64 → j < 2 ^ 64 → numeral i ≡ numeral j → i ≡ j
numeral-injective i j low low2 high high2 e = by (nat_le i 1) (nat_le j 1) refl refl e
  where
    by : (a b : Bool) → nat_le i 1 ≡ a → nat_le j 1 ≡ b → cond a [] (decimal i) ≡ cond b [] (decimal j) → i ≡ j
    by true true p q e = grind (arith, nat_tests, p, q)
    by true false p q e = absurd (omega (arith, decimal_nonempty j high2, ap length e))
    by false true p q e = absurd (omega (arith, decimal_nonempty i high, ap length e))
    by false false p q e = decimal_injective i j high high2 e

candidate-injective : (base : List ℕ) (i j : ℕ) → 1 ≤ i → 1 ≤ j → i < 2 ^ 64 → j < 2 ^ 64 → candidate base i ≡ candidate base j → i ≡ j
candidate-injective base i j low low2 high high2 e = numeral-injective i j low low2 high high2 (behind-same base (numeral i) (numeral j) (ap tail e))

-- ---- a list without one of its strings

abbrev without : List ℕ → Strings → Strings
without s [] = []
without s (w ∷ ws) = cond (bytes_eq w s) ws (w ∷ without s ws)

length-without : (s : List ℕ) (ws : Strings) → is_among s ws ≡ true → length ws ≡ suc (length (without s ws))
length-without s [] h = absurd (true≢false (sym h))
length-without s (w ∷ ws) h = by (bytes_eq w s) h (length-without s ws)
  where
    by : (b : Bool) → b || is_among s ws ≡ true → (is_among s ws ≡ true → length ws ≡ suc (length (without s ws))) → length (w ∷ ws) ≡ suc (length (cond b ws (w ∷ without s ws)))
    by true h rest = refl
    by false h rest = ap suc (rest h)

among-without : (s t : List ℕ) (ws : Strings) → bytes_eq s t ≡ false → is_among t (without s ws) ≡ is_among t ws
among-without s t [] apart = refl
among-without s t (w ∷ ws) apart = by (bytes_eq w s) refl (among-without s t ws apart)
  where
    by : (b : Bool) → bytes_eq w s ≡ b → is_among t (without s ws) ≡ is_among t ws → is_among t (cond b ws (w ∷ without s ws)) ≡ bytes_eq w t || is_among t ws
    by true is rest = sym (ap (λ c. c || is_among t ws) (ap (λ v. bytes_eq v t) ((bytes_eq-Decides w s).0 is) ∙ apart))
    by false is rest = ap (λ c. bytes_eq w t || c) rest

-- ---- as many candidates, as many places

different : (base : List ℕ) (i j : ℕ) → 1 ≤ i → i < j → j < 2 ^ 64 → bytes_eq (candidate base j) (candidate base i) ≡ false
different base i j low below high = elim (bytes_eq (candidate base j) (candidate base i)) as (λ b. bytes_eq (candidate base j) (candidate base i) ≡ b → b ≡ false) [
  | true ↦ λ t. let same = candidate-injective base j i (omega arith) low high (omega arith) ((bytes_eq-Decides (candidate base j) (candidate base i)).0 t) in absurd (omega arith)
  | false ↦ λ _. refl
] refl

pub places : (base : List ℕ) (n : ℕ) → n < 2 ^ 64 → (taken : Strings) → AreTakenBefore taken base (suc n) → n ≤ length taken
places base zero high taken all = omega arith
places base (suc n) high taken all =
    let last = all (suc n) (omega arith) (omega arith) in
    let rest = without (candidate base (suc n)) taken in
    let fewer = places base n (omega arith) rest (λ j low below. among-without (candidate base (suc n)) (candidate base j) taken (different base j (suc n) low (omega arith) high) ∙ all j low (omega arith)) in
    omega (arith, length-without (candidate base (suc n)) taken last)

-- ---- the first candidate that is free

from-here : (taken : Strings) (base : List ℕ) (n : ℕ) → IsFirstFree taken base n → (tries k : ℕ) → 1 ≤ k → k ≤ n → n ≤ k + tries → first_free_from taken base tries k ≡ n
from-here taken base n is zero k low before within = omega arith
from-here taken base n is (suc tries) k low before within = by (nat_lt k n) refl (λ below. from-here taken base n is tries (suc k) (omega arith) below (omega arith))
  where
    by : (b : Bool) → nat_lt k n ≡ b → (suc k ≤ n → first_free_from taken base tries (suc k) ≡ n) → cond (is_among (candidate base k) taken) (first_free_from taken base tries (suc k)) k ≡ n
    by true t rest =
        let below : k < n = (Decides-ltb k n).0 t in
        ap (λ b. cond b (first_free_from taken base tries (suc k)) k) (is.before k low below) ∙ rest (omega (arith, below))
    by false t rest =
        let same : k ≡ n = grind (arith, nat_tests, t, before) in
        ap (λ b. cond b (first_free_from taken base tries (suc k)) k) (ap (λ m. is_among (candidate base m) taken) same ∙ is.free) ∙ same

pub within_places : (taken : Strings) (base : List ℕ) (n : ℕ) → 1 ≤ n → n ≤ 2 ^ 64 → AreTakenBefore taken base n → n ≤ length taken + 1
within_places taken base zero low high all = omega arith
within_places taken base (suc n) low high all = omega (arith, places base n (omega arith) taken all)

pub first_is : (taken : Strings) (base : List ℕ) (n : ℕ) → n < 2 ^ 64 → IsFirstFree taken base n → n ≡ first_free_number taken base
first_is taken base n high is = sym (from-here taken base n is (length taken) 1 (omega arith) is.positive (omega (arith, within_places taken base n is.positive (omega arith) is.before)))

pub next_taken : (taken : Strings) (base : List ℕ) (n : ℕ) → AreTakenBefore taken base n → is_among (candidate base n) taken ≡ true → AreTakenBefore taken base (suc n)
next_taken taken base n all t j low below = by (nat_lt j n) refl
  where
    by : (b : Bool) → nat_lt j n ≡ b → is_among (candidate base j) taken ≡ true
    by true less = all j low ((Decides-ltb j n).0 less)
    by false not = let same : j ≡ n = grind (arith, nat_tests, not, below) in ap (λ m. is_among (candidate base m) taken) same ∙ t

-- ---- with one more taken

among-more : (s t : List ℕ) (taken : Strings) → is_among s taken ≡ true → is_among s (taken ++ t ∷ []) ≡ true
among-more s t [] h = absurd (true≢false (sym h))
among-more s t (w ∷ ws) h = by (bytes_eq w s) h (among-more s t ws)
  where
    by : (b : Bool) → b || is_among s ws ≡ true → (is_among s ws ≡ true → is_among s (ws ++ t ∷ []) ≡ true) → b || is_among s (ws ++ t ∷ []) ≡ true
    by true h rest = refl
    by false h rest = rest h

pub before-more : (taken : Strings) (t base : List ℕ) (n : ℕ) → AreTakenBefore taken base n → AreTakenBefore (taken ++ t ∷ []) base n
before-more taken t base n all j low below = among-more (candidate base j) t taken (all j low below)

pub with_free : (taken : Strings) (t : List ℕ) → is_among t taken ≡ false → with_string taken t ≡ taken ++ t ∷ []
with_free taken t free = ap (λ b. cond b taken (taken ++ t ∷ [])) free

-- with another number for one base
pub next-set : (taken : Strings) (numbers new : Numbers) (base : List ℕ) (n : ℕ) → AreNext taken numbers → (1 ≤ n) × AreTakenBefore taken base n
    → ((other : List ℕ) → number_of other new ≡ cond (bytes_eq other base) (Some n) (number_of other numbers)) → AreNext taken new
next-set taken numbers new base n are its set other m is = by (bytes_eq other base) refl (sym (set other) ∙ is)
  where
    by : (b : Bool) → bytes_eq other base ≡ b → cond b (Some n) (number_of other numbers) ≡ Some m → (1 ≤ m) × AreTakenBefore taken other m
    by true t e =
        let same : n ≡ m = cc in
        let base_is : base ≡ other = sym ((bytes_eq-Decides other base).0 t) in
        (omega (arith, its.0), subst (λ (k : ℕ). AreTakenBefore taken other k) same (subst (λ (b : List ℕ). AreTakenBefore taken b n) base_is its.1))
    by false t e = are other m e

pub before-with : (taken new : Strings) (t base : List ℕ) (n : ℕ) → new ≡ with_string taken t → AreTakenBefore taken base n → AreTakenBefore new base n
before-with taken new t base n is all = subst (λ s. AreTakenBefore s base n) (sym is) (by (is_among t taken))
  where
    by : (b : Bool) → AreTakenBefore (cond b taken (taken ++ t ∷ [])) base n
    by true = all
    by false = before-more taken t base n all

-- ---- a name that is given: the first free candidate of its base

module _ (taken now : Strings) (view : taken ≡ now) (base name raw : List ℕ) (n : ℕ) (first : IsFirstFree taken base n) (number : n ≡ first_free_number taken base) (raw_is : raw ≡ candidate base n) (name_is : name ≡ raw) where
  pub given-first : name ≡ first_free now base
  given-first = name_is ∙ raw_is ∙ ap (candidate base) number ∙ ap (λ s. first_free s base) view

  raw-free : is_among raw taken ≡ false
  raw-free = ap (λ s. is_among s taken) raw_is ∙ first.free

  pub given-free : is_among name now ≡ false
  given-free = (λ i. is_among (name_is i) (sym view i)) ∙ raw-free

  pub given-added : (new : Strings) → new ≡ with_string taken raw → new ≡ now ++ name ∷ []
  given-added new is = is ∙ with_free taken raw raw-free ∙ (λ i. view i ++ sym name_is i ∷ [])

-- the number that a base begins with
pub from_number : (taken : Strings) (numbers : Numbers) (base : List ℕ) → AreNext taken numbers → (found : Option ℕ) → found ≡ number_of base numbers → (n : ℕ) → n ≡ unwrap_or found 1 → (1 ≤ n) × AreTakenBefore taken base n
from_number taken numbers base are None is n from = (omega (arith, from), λ j low below. absurd (omega (arith, from, low, below)))
from_number taken numbers base are (Some m) is n from = let h = are base m (sym is) in (omega (arith, from, h.0), subst (λ (k : ℕ). AreTakenBefore taken base k) (sym from) h.1)

pub next-with : (taken new : Strings) (t : List ℕ) (numbers : Numbers) → new ≡ with_string taken t → AreNext taken numbers → AreNext new numbers
next-with taken new t numbers is are base n found = let h = are base n found in (h.0, before-with taken new t base n is h.1)
