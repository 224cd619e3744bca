-- Which of two nodes comes first is told by their places.
use Rattle.std.proofs.Common.{◌≡◌, refl, sym, ap, ◌∙◌, arith, ℕ, suc, ◌<◌, ◌≤◌, List, [], ◌∷◌, ◌++◌, Bool, true, false, cond, ◌&&◌, nat_eq, nat_le, min, Option, Some, None}
use Rattle.std.proofs.Math.Bool.{and_assoc, and-true}
use Rattle.std.proofs.lemmas.Bool.Decides.{nat_tests}
use Rattle.es_base.specs.Preorder.{number_of}
use Rattle.es_base.specs.Tree.{Tree}
use Rattle.es_grouped.specs.Groups.{having}
use Rattle.es_lowered.specs.Lowered.{all_before, comes_before}
use Rattle.es_owed_initialized.specs.Order.{earlier, first_of_all, first_place, is_before, place, places_from}

at_most : (i j : ℕ) → i ≤ j → nat_le i j ≡ true
at_most i j le = grind (arith, nat_tests)

behind : (i j : ℕ) → i < j → nat_le j i ≡ false
behind i j lt = grind (arith, nat_tests)

abbrev IsFrom : ℕ → Option ℕ → Type 0
IsFrom i None = Unit {0}
IsFrom i (Some j) = i ≤ j

from_before : (i : ℕ) (j : Option ℕ) → IsFrom (suc i) j → IsFrom i j
from_before i None h = tt
from_before i (Some j) h = omega (arith, h)

-- places from one on are no earlier
places_behind : (n i : ℕ) (ts : List Tree) → IsFrom i (first_place (having n (places_from i ts)))
places_behind n i [] = tt
places_behind n i (t ∷ ts) = here (nat_eq n (number_of t)) (places_behind n (suc i) ts)
  where
    here : (b : Bool) → IsFrom (suc i) (first_place (having n (places_from (suc i) ts))) → IsFrom i (first_place (cond b (i ∷ []) [] ++ having n (places_from (suc i) ts)))
    here true h = omega arith
    here false h = from_before i (first_place (having n (places_from (suc i) ts))) h

first_is_before : (i : ℕ) (j : Option ℕ) → IsFrom (suc i) j → true ≡ is_before (Some i) j
first_is_before i None h = refl
first_is_before i (Some j) h = sym (at_most i j (omega (arith, h)))

later_is_not : (i : ℕ) (j : Option ℕ) → IsFrom (suc i) j → false ≡ is_before j (Some i)
later_is_not i None h = refl
later_is_not i (Some j) h = sym (behind i j (omega (arith, h)))

before_from : (m n i : ℕ) (ts : List Tree) → comes_before m n ts ≡ is_before (first_place (having m (places_from i ts))) (first_place (having n (places_from i ts)))
before_from m n i [] = refl
before_from m n i (t ∷ ts) = here (nat_eq m (number_of t)) (nat_eq n (number_of t)) (before_from m n (suc i) ts)
  where
    ms : List ℕ
    ms = having m (places_from (suc i) ts)

    ns : List ℕ
    ns = having n (places_from (suc i) ts)

    here : (a b : Bool) → comes_before m n ts ≡ is_before (first_place ms) (first_place ns)
        → cond a true (cond b false (comes_before m n ts)) ≡ is_before (first_place (cond a (i ∷ []) [] ++ ms)) (first_place (cond b (i ∷ []) [] ++ ns))
    here true true h = sym (at_most i i (omega arith))
    here true false h = first_is_before i (first_place ns) (places_behind n (suc i) ts)
    here false true h = later_is_not i (first_place ms) (places_behind m (suc i) ts)
    here false false h = h

pub before_by_place : (m n : ℕ) (ts : List Tree) → is_before (place m ts) (place n ts) ≡ comes_before m n ts
before_by_place m n ts = sym (before_from m n 0 ts)

-- ---- before several

before_least : (i j k : ℕ) → nat_le i (min j k) ≡ (nat_le i j && nat_le i k)
before_least i j k = grind (arith, nat_tests)

before_both : (i j k : Option ℕ) → is_before i (earlier j k) ≡ (is_before i j && is_before i k)
before_both None j k = refl
before_both (Some i) None k = refl
before_both (Some i) (Some j) None = sym (and-true (nat_le i j))
before_both (Some i) (Some j) (Some k) = before_least i j k

before_all : (m : ℕ) (j : Option ℕ) (ns : List ℕ) (ts : List Tree) → is_before (place m ts) (first_of_all j ns ts) ≡ (is_before (place m ts) j && all_before m ns ts)
before_all m j [] ts = sym (and-true (is_before (place m ts) j))
before_all m j (n ∷ ns) ts =
    before_all m (earlier j (place n ts)) ns ts
    ∙ ap (λ b. b && all_before m ns ts) (before_both (place m ts) j (place n ts) ∙ ap (λ b. is_before (place m ts) j && b) (before_by_place m n ts))
    ∙ and_assoc (is_before (place m ts) j) (comes_before m n ts) (all_before m ns ts)

-- what comes before the first of several comes before all
pub before_first : (m n : ℕ) (ns : List ℕ) (ts : List Tree) → is_before (place m ts) (first_of_all None (n ∷ ns) ts) ≡ all_before m (n ∷ ns) ts
before_first m n ns ts = before_all m (place n ts) ns ts ∙ ap (λ b. b && all_before m ns ts) (before_by_place m n ts)
