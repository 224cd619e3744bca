-- Fresh numbers for the nodes that have none: where the others stand once each and are below the first
-- fresh number, every number stands once, and the fresh ones follow each other in preorder.
use Rattle.std.proofs.Common.{◌≡◌, refl, sym, subst, ap, ◌∙◌, ℕ, ◌+◌, ◌<◌, ◌≤◌, List, [], ◌∷◌, ◌++◌, map, Bool, true, false, arith}
use Rattle.std.specs.Prelude.{nat_le, filter, not, cond, All}
use Rattle.std.specs.List.{AllByRecursion}
use Rattle.std.proofs.lemmas.List.{map-append}
use Rattle.std.proofs.lemmas.List.Elements.{recursion_from_All}
use Rattle.std.proofs.lemmas.Bool.Decides.{nat_tests}
use Rattle.es_base.specs.Tree.{Tree, Part, Parts, Node, end, more, child, absent, list, string, no_string, boolean, literal}
use Rattle.es_base.specs.Preorder.{preorder_of, preorder_of_part, number_of, one_if, either, news_of, news_of_part, news, renumbered, renumbered_part, renumbered_parts}
use Rattle.es_base.specs.Numbered.{numbers, is_old, EachOnce, IsNumbered, old_numbers}
use Rattle.es_base.proofs.NumberedLemmas.{IsNumbered-renumbered}

-- the numbers are new from f on where they are new from n on
abbrev Agree : ℕ → ℕ → List ℕ → Type 0
Agree f n ks = AllByRecursion (λ k. nat_le f k ≡ nat_le n k) ks

not_above : (n k : ℕ) → k < n → nat_le n k ≡ false
not_above n k l = grind (arith, nat_tests)

agree : (f n : ℕ) (ks : List ℕ) → n ≤ f → AllByRecursion (λ k. k < n) (filter (is_old f) ks) → Agree f n ks
agree f n [] l below = tt
agree f n (k ∷ ks) l below = first (agree f n ks l) (nat_le f k) refl below
  where
    first : (AllByRecursion (λ j. j < n) (filter (is_old f) ks) → Agree f n ks) → (b : Bool) → nat_le f k ≡ b → AllByRecursion (λ j. j < n) (cond (not b) (k ∷ filter (is_old f) ks) (filter (is_old f) ks)) → Agree f n (k ∷ ks)
    first rest true e below = (grind (arith, nat_tests), rest below)
    first rest false e below = (e ∙ sym (not_above n k below.0), rest below.1)

Agree-left : (f n : ℕ) (ks ls : List ℕ) → Agree f n (ks ++ ls) → Agree f n ks
Agree-left f n [] ls a = tt
Agree-left f n (k ∷ ks) ls a = (a.0, Agree-left f n ks ls a.1)

Agree-right : (f n : ℕ) (ks ls : List ℕ) → Agree f n (ks ++ ls) → Agree f n ls
Agree-right f n [] ls a = a
Agree-right f n (k ∷ ks) ls a = Agree-right f n ks ls a.1

parted : (f n : ℕ) (p : Part) (rest : Parts) → Agree f n (map number_of (preorder_of (more p rest))) → Agree f n (map number_of (preorder_of_part p) ++ map number_of (preorder_of rest))
parted f n p rest a = subst (Agree f n) (map-append number_of (preorder_of_part p) (preorder_of rest)) a

old_agree : (f n : ℕ) (ks : List ℕ) → Agree f n ks → filter (is_old f) ks ≡ filter (is_old n) ks
old_agree f n [] a = refl
old_agree f n (k ∷ ks) a =
    ap (λ b. cond (not b) (k ∷ filter (is_old f) ks) (filter (is_old f) ks)) a.0
    ∙ ap (λ js. cond (not (nat_le n k)) (k ∷ js) js) (old_agree f n ks a.1)

mutual
  news-agree : (f n : ℕ) (t : Tree) → Agree f n (numbers t) → news f t ≡ news n t
  news-agree f n (Node kind id span semantic_id parts) a = ap (λ b. one_if b + news_of f parts) a.0 ∙ ap (λ k. one_if (nat_le n id) + k) (news_of-agree f n parts a.1)

  news_of_part-agree : (f n : ℕ) (p : Part) → Agree f n (map number_of (preorder_of_part p)) → news_of_part f p ≡ news_of_part n p
  news_of_part-agree f n (child t) a = news-agree f n t a
  news_of_part-agree f n absent a = refl
  news_of_part-agree f n (list all) a = news_of-agree f n all a
  news_of_part-agree f n (string chars) a = refl
  news_of_part-agree f n no_string a = refl
  news_of_part-agree f n (boolean value) a = refl
  news_of_part-agree f n (literal value) a = refl

  news_of-agree : (f n : ℕ) (ps : Parts) → Agree f n (map number_of (preorder_of ps)) → news_of f ps ≡ news_of n ps
  news_of-agree f n end a = refl
  news_of-agree f n (more p rest) a =
      let both = parted f n p rest a in
      ap (λ k. k + news_of f rest) (news_of_part-agree f n p (Agree-left f n _ _ both)) ∙ ap (λ k. news_of_part n p + k) (news_of-agree f n rest (Agree-right f n _ _ both))

mutual
  renumbered-agree : (f n m : ℕ) (t : Tree) → Agree f n (numbers t) → renumbered f m t ≡ renumbered n m t
  renumbered-agree f n m (Node kind id span semantic_id parts) a =
      ap (λ b. Node kind (either b m id) span semantic_id (renumbered_parts f (m + one_if b) parts)) a.0
      ∙ ap (Node kind (either (nat_le n id) m id) span semantic_id) (renumbered_parts-agree f n (m + one_if (nat_le n id)) parts a.1)

  renumbered_part-agree : (f n m : ℕ) (p : Part) → Agree f n (map number_of (preorder_of_part p)) → renumbered_part f m p ≡ renumbered_part n m p
  renumbered_part-agree f n m (child t) a = ap child (renumbered-agree f n m t a)
  renumbered_part-agree f n m absent a = refl
  renumbered_part-agree f n m (list all) a = ap list (renumbered_parts-agree f n m all a)
  renumbered_part-agree f n m (string chars) a = refl
  renumbered_part-agree f n m no_string a = refl
  renumbered_part-agree f n m (boolean value) a = refl
  renumbered_part-agree f n m (literal value) a = refl

  renumbered_parts-agree : (f n m : ℕ) (ps : Parts) → Agree f n (map number_of (preorder_of ps)) → renumbered_parts f m ps ≡ renumbered_parts n m ps
  renumbered_parts-agree f n m end a = refl
  renumbered_parts-agree f n m (more p rest) a =
      let both = parted f n p rest a in
      let here = Agree-left f n _ _ both in
      ap (λ q. more q (renumbered_parts f (m + news_of_part f p) rest)) (renumbered_part-agree f n m p here)
      ∙ ap (λ k. more (renumbered_part n m p) (renumbered_parts f (m + k) rest)) (news_of_part-agree f n p here)
      ∙ ap (more (renumbered_part n m p)) (renumbered_parts-agree f n (m + news_of_part n p) rest (Agree-right f n _ _ both))

pub IsNumbered-fresh : (f n : ℕ) (t : Tree) → n ≤ f → All (λ k. k < n) (old_numbers f t) → EachOnce (old_numbers f t) → IsNumbered n (renumbered f n t)
IsNumbered-fresh f n t l below once =
    let same = agree f n (numbers t) l (recursion_from_All (λ k. k < n) (old_numbers f t) below) in
    subst (IsNumbered n) (sym (renumbered-agree f n n t same)) (IsNumbered-renumbered n t (subst EachOnce (old_agree f n (numbers t) same) once))
