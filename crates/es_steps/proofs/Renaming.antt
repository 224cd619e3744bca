-- Giving the new nodes of a tree their numbers anew, in preorder, is a change of numbers.
use Rattle.std.proofs.Common.{◌≡◌, refl, sym, subst, ap, ◌∙◌, true≢false, ℕ, ◌+◌, ◌<◌, ◌≤◌, List, [], ◌∷◌, ◌++◌, length, map, Bool, true, false, Option, Some, None, length-append, arith}
use Rattle.std.specs.Prelude.{nat_eq, filter, not, cond}
use Rattle.std.specs.List.{IsDistinct, AllByRecursion}
use Rattle.std.proofs.lemmas.List.{map-append, length-map}
use Rattle.std.proofs.lemmas.List.Elements.{filter-append}
use Rattle.std.proofs.lemmas.Bool.{le-leb}
use Rattle.es_base.specs.Tree.{Tree, Part, Parts, Node, end, more, child, absent, list, string, no_string, boolean, literal}
use Rattle.es_base.specs.Preorder.{preorder_of, preorder_of_part, number_of, one_if, either, news, news_of, news_of_part, renumbered, renumbered_part, renumbered_parts}
use Rattle.es_base.specs.Numbered.{numbers, is_new, is_old, AreConsecutive, EachOnce, new_numbers}
use Rattle.es_steps.proofs.Mapped.{Renames, mapped, mapped_part, mapped_parts}

-- ---- the change

-- the first place of k in a list whose first place is n
abbrev pub place : ℕ → ℕ → List ℕ → Option ℕ
place n k [] = None
place n k (x ∷ xs) = cond (nat_eq k x) (Some n) (place (n + 1) k xs)

abbrev pub placed_or : ℕ → Option ℕ → ℕ
placed_or k None = k
placed_or k (Some i) = i

-- the numbers of xs become first, first + 1, .., and all other new ones stand behind them
abbrev pub renaming : ℕ → List ℕ → ℕ → ℕ
renaming first xs k = cond (is_new first k) (placed_or (k + length xs) (place first k xs)) k

-- ---- it renames

nat_eq-sound : (a b : ℕ) → nat_eq a b ≡ true → a ≡ b
nat_eq-sound a b e = grind arith

nat_eq-refl : (a : ℕ) → nat_eq a a ≡ true
nat_eq-refl a = grind arith

nat_eq-apart : (a b : ℕ) → (a ≡ b → ⊥) → nat_eq a b ≡ false
nat_eq-apart a b apart = grind (arith, apart)

nat_eq-differ : (a b : ℕ) → nat_eq a b ≡ false → a ≡ b → ⊥
nat_eq-differ a b e same = grind arith

new-le : (first k : ℕ) → is_new first k ≡ true → first ≤ k
new-le first k e = grind arith

old-lt : (first k : ℕ) → is_new first k ≡ false → k < first
old-lt first k e = grind arith

-- places are in the list
place_bounds : (n k i : ℕ) (xs : List ℕ) → place n k xs ≡ Some i → (n ≤ i) × (i < n + length xs)
place_bounds n k i [] e = cc
place_bounds n k i (x ∷ xs) e = by_head (nat_eq k x) e (place_bounds (n + 1) k i xs)
  where
    by_head : (b : Bool) → cond b (Some n) (place (n + 1) k xs) ≡ Some i → (place (n + 1) k xs ≡ Some i → (n + 1 ≤ i) × (i < n + 1 + length xs)) → (n ≤ i) × (i < n + length (x ∷ xs))
    by_head true e rest = let same : n ≡ i = cc in (omega (arith, same), omega (arith, same))
    by_head false e rest = (omega (arith, (rest e).0), omega (arith, (rest e).1))

-- one place has one number
place_once : (n a b i : ℕ) (xs : List ℕ) → place n a xs ≡ Some i → place n b xs ≡ Some i → a ≡ b
place_once n a b i [] p q = cc
place_once n a b i (x ∷ xs) p q = by_head (nat_eq a x) (nat_eq b x) refl refl p q (place_once (n + 1) a b i xs)
  where
    clash : (k : ℕ) → n ≡ i → place (n + 1) k xs ≡ Some i → a ≡ b
    clash k same e = absurd (omega (arith, same, (place_bounds (n + 1) k i xs e).0))

    by_head : (c d : Bool) → nat_eq a x ≡ c → nat_eq b x ≡ d → cond c (Some n) (place (n + 1) a xs) ≡ Some i → cond d (Some n) (place (n + 1) b xs) ≡ Some i → (place (n + 1) a xs ≡ Some i → place (n + 1) b xs ≡ Some i → a ≡ b) → a ≡ b
    by_head true true c d p q rest = nat_eq-sound a x c ∙ sym (nat_eq-sound b x d)
    by_head true false c d p q rest = let same : n ≡ i = cc in clash b same q
    by_head false true c d p q rest = let same : n ≡ i = cc in clash a same p
    by_head false false c d p q rest = rest p q

module _ (first : ℕ) (xs : List ℕ) where
  placed_apart : (a b : ℕ) (p q : Option ℕ) → first ≤ a → first ≤ b → place first a xs ≡ p → place first b xs ≡ q → placed_or (a + length xs) p ≡ placed_or (b + length xs) q → a ≡ b
  placed_apart a b None None la lb p q e = omega (arith, e)
  placed_apart a b None (Some j) la lb p q e = absurd (omega (arith, e, la, (place_bounds first b j xs q).1))
  placed_apart a b (Some i) None la lb p q e = absurd (omega (arith, e, lb, (place_bounds first a i xs p).1))
  placed_apart a b (Some i) (Some j) la lb p q e = place_once first a b j xs (p ∙ ap Some e) q

  placed-le : (a : ℕ) (p : Option ℕ) → first ≤ a → place first a xs ≡ p → first ≤ placed_or (a + length xs) p
  placed-le a None l e = omega (arith, l)
  placed-le a (Some i) l e = (place_bounds first a i xs e).0

  -- numbers that become the same were the same
  renaming-sound : (a b : ℕ) → renaming first xs a ≡ renaming first xs b → a ≡ b
  renaming-sound a b e = by_news (is_new first a) (is_new first b) refl refl e
    where
      clash : (k m : ℕ) → is_new first k ≡ true → is_new first m ≡ false → placed_or (k + length xs) (place first k xs) ≡ m → ⊥
      clash k m new old e = omega (arith, e, old-lt first m old, placed-le k (place first k xs) (new-le first k new) refl)

      by_news : (c d : Bool) → is_new first a ≡ c → is_new first b ≡ d → cond c (placed_or (a + length xs) (place first a xs)) a ≡ cond d (placed_or (b + length xs) (place first b xs)) b → a ≡ b
      by_news true true c d e = placed_apart a b (place first a xs) (place first b xs) (new-le first a c) (new-le first b d) refl refl e
      by_news true false c d e = absurd (clash a b c d e)
      by_news false true c d e = absurd (clash b a d c (sym e))
      by_news false false c d e = e

  renaming-apart : (a b : ℕ) → nat_eq (renaming first xs a) (renaming first xs b) ≡ nat_eq a b
  renaming-apart a b = by_same (nat_eq a b) refl
    where
      by_same : (c : Bool) → nat_eq a b ≡ c → nat_eq (renaming first xs a) (renaming first xs b) ≡ c
      by_same true e = rw (nat_eq-sound a b e) (nat_eq-refl (renaming first xs b))
      by_same false e = nat_eq-apart _ _ (λ same. nat_eq-differ a b e (renaming-sound a b same))

  renaming-new : (a : ℕ) → is_new first (renaming first xs a) ≡ is_new first a
  renaming-new a = by_new (is_new first a) refl
    where
      by_new : (c : Bool) → is_new first a ≡ c → is_new first (cond c (placed_or (a + length xs) (place first a xs)) a) ≡ c
      by_new true e = le-leb first _ (placed-le a (place first a xs) (new-le first a e) refl)
      by_new false e = e

  renaming-old : (a : ℕ) → is_old first a ≡ true → renaming first xs a ≡ a
  renaming-old a old = by_new (is_new first a) old
    where
      by_new : (c : Bool) → not c ≡ true → cond c (placed_or (a + length xs) (place first a xs)) a ≡ a
      by_new true e = absurd (true≢false (sym e))
      by_new false e = refl

pub renaming-renames : (first : ℕ) (xs : List ℕ) → Renames first (renaming first xs)
renaming-renames first xs = record { apart = renaming-apart first xs; new = renaming-new first xs; old = renaming-old first xs }

-- ---- a tree that it maps in turn is numbered anew

-- no change
abbrev pub same : ℕ → ℕ
same n = n

abbrev new_of_part : ℕ → Part → List ℕ
new_of_part first p = filter (is_new first) (map number_of (preorder_of_part p))

abbrev new_of : ℕ → Parts → List ℕ
new_of first ps = filter (is_new first) (map number_of (preorder_of ps))

new_of-more : (first : ℕ) (p : Part) (rest : Parts) → new_of first (more p rest) ≡ new_of_part first p ++ new_of first rest
new_of-more first p rest = ap (filter (is_new first)) (map-append number_of (preorder_of_part p) (preorder_of rest)) ∙ filter-append (is_new first) (map number_of (preorder_of_part p)) (map number_of (preorder_of rest))

many_first : (id : ℕ) (b : Bool) (ks : List ℕ) → length (cond b (id ∷ ks) ks) ≡ one_if b + length ks
many_first id true ks = omega arith
many_first id false ks = omega arith

mutual
  many : (first : ℕ) (t : Tree) → length (new_numbers first t) ≡ news first t
  many first (Node kind id span semantic_id ps) = many_first id (is_new first id) (new_of first ps) ∙ ap (λ k. one_if (is_new first id) + k) (many_of first ps)

  many_of_part : (first : ℕ) (p : Part) → length (new_of_part first p) ≡ news_of_part first p
  many_of_part first (child t) = many first t
  many_of_part first absent = refl
  many_of_part first (list ps) = many_of first ps
  many_of_part first (string s) = refl
  many_of_part first no_string = refl
  many_of_part first (boolean b) = refl
  many_of_part first (literal v) = refl

  many_of : (first : ℕ) (ps : Parts) → length (new_of first ps) ≡ news_of first ps
  many_of first end = refl
  many_of first (more p rest) = omega (arith, ap length (new_of-more first p rest), length-append (new_of_part first p) (new_of first rest), many_of_part first p, many_of first rest)

-- of two lists in turn, one behind the other, both are
AreConsecutive-split : (n k : ℕ) (xs ys : List ℕ) → length xs ≡ k → AreConsecutive n (xs ++ ys) → AreConsecutive n xs × AreConsecutive (n + k) ys
AreConsecutive-split n k [] ys e i =
    let same : n ≡ n + k = omega (arith, e) in
    (tt, subst (λ m. AreConsecutive m ys) same i)
AreConsecutive-split n k (x ∷ xs) ys e i =
    let both : AreConsecutive (n + 1) xs × AreConsecutive (n + 1 + length xs) ys = AreConsecutive-split (n + 1) (length xs) xs ys refl i.1 in
    let same : n + 1 + length xs ≡ n + k = omega (arith, e) in
    ((i.0, both.0), subst (λ m. AreConsecutive m ys) same both.1)

module _ (first : ℕ) (f : ℕ → ℕ) (stays : (a : ℕ) → is_old first a ≡ true → f a ≡ a) where
  first_anew : (n id : ℕ) (b : Bool) (ks : List ℕ) → is_new first id ≡ b → AreConsecutive n (map f (cond b (id ∷ ks) ks)) → (f id ≡ either b n id) × AreConsecutive (n + one_if b) (map f ks)
  first_anew n id true ks e i = (i.0, i.1)
  first_anew n id false ks e i =
      let same : n ≡ n + 0 = omega arith in
      (stays id (ap not e), subst (λ m. AreConsecutive m (map f ks)) same i)

  parts_anew : (n : ℕ) (p : Part) (rest : Parts) → AreConsecutive n (map f (new_of first (more p rest))) → AreConsecutive n (map f (new_of_part first p)) × AreConsecutive (n + news_of_part first p) (map f (new_of first rest))
  parts_anew n p rest i =
      AreConsecutive-split n (news_of_part first p) (map f (new_of_part first p)) (map f (new_of first rest))
      (length-map (new_of_part first p) f ∙ many_of_part first p)
      (subst (AreConsecutive n) (ap (map f) (new_of-more first p rest) ∙ map-append f (new_of_part first p) (new_of first rest)) i)

  mutual
    anew : (n : ℕ) (t : Tree) → AreConsecutive n (map f (new_numbers first t)) → mapped f t ≡ mapped same (renumbered first n t)
    anew n (Node kind id span semantic_id ps) i =
        let both = first_anew n id (is_new first id) (new_of first ps) refl i in
        ap (λ k. Node kind k None None (mapped_parts f ps)) both.0 ∙ ap (Node kind (either (is_new first id) n id) None None) (anew_parts (n + one_if (is_new first id)) ps both.1)

    anew_part : (n : ℕ) (p : Part) → AreConsecutive n (map f (new_of_part first p)) → mapped_part f p ≡ mapped_part same (renumbered_part first n p)
    anew_part n (child t) i = ap child (anew n t i)
    anew_part n absent i = refl
    anew_part n (list ps) i = ap list (anew_parts n ps i)
    anew_part n (string s) i = refl
    anew_part n no_string i = refl
    anew_part n (boolean b) i = refl
    anew_part n (literal v) i = refl

    anew_parts : (n : ℕ) (ps : Parts) → AreConsecutive n (map f (new_of first ps)) → mapped_parts f ps ≡ mapped_parts same (renumbered_parts first n ps)
    anew_parts n end i = refl
    anew_parts n (more p rest) i =
        let both = parts_anew n p rest i in
        ap (λ q. more q (mapped_parts f rest)) (anew_part n p both.0) ∙ ap (more (mapped_part same (renumbered_part first n p))) (anew_parts (n + news_of_part first p) rest both.1)

-- ---- new numbers that stand once each are mapped in turn

abbrev Apart : ℕ → List ℕ → Type 0
Apart x ks = AllByRecursion (λ y. nat_eq x y ≡ false) ks

apart-filter : (test : ℕ → Bool) (x : ℕ) (ks : List ℕ) → Apart x ks → Apart x (filter test ks)
apart-filter test x [] a = tt
apart-filter test x (k ∷ ks) a = kept (test k) (apart-filter test x ks a.1)
  where
    kept : (b : Bool) → Apart x (filter test ks) → Apart x (cond b (k ∷ filter test ks) (filter test ks))
    kept true rest = (a.0, rest)
    kept false rest = rest

pub EachOnce-filter : (test : ℕ → Bool) (ks : List ℕ) → EachOnce ks → EachOnce (filter test ks)
unfolding IsDistinct
EachOnce-filter test [] once = tt
EachOnce-filter test (k ∷ ks) once = kept (test k) (apart-filter test k ks once.0) (EachOnce-filter test ks once.1)
  where
    kept : (b : Bool) → Apart k (filter test ks) → EachOnce (filter test ks) → EachOnce (cond b (k ∷ filter test ks) (filter test ks))
    kept true apart rest = (apart, rest)
    kept false apart rest = rest

all_pass : (test : ℕ → Bool) (ks : List ℕ) → AllByRecursion (λ k. test k ≡ true) (filter test ks)
all_pass test [] = tt
all_pass test (k ∷ ks) = kept (test k) refl (all_pass test ks)
  where
    kept : (b : Bool) → test k ≡ b → AllByRecursion (λ j. test j ≡ true) (filter test ks) → AllByRecursion (λ j. test j ≡ true) (cond b (k ∷ filter test ks) (filter test ks))
    kept true e rest = (e, rest)
    kept false e rest = rest

-- two functions that agree on a list
map-same : (f g : ℕ → ℕ) (P : ℕ → Type 0) (ks : List ℕ) → ((k : ℕ) → P k → f k ≡ g k) → AllByRecursion P ks → map f ks ≡ map g ks
map-same f g P [] agree all = refl
map-same f g P (k ∷ ks) agree all = ap (λ j. j ∷ map f ks) (agree k all.0) ∙ ap (λ js. g k ∷ js) (map-same f g P ks agree all.1)

-- numbers that stand once each have their places in turn, whatever becomes of others
placed_in_turn : (beside : ℕ → ℕ) (n : ℕ) (ks : List ℕ) → EachOnce ks → AreConsecutive n (map (λ k. placed_or (beside k) (place n k ks)) ks)
unfolding IsDistinct
placed_in_turn beside n [] once = tt
placed_in_turn beside n (k ∷ ks) once =
    let behind : map (λ j. placed_or (beside j) (place n j (k ∷ ks))) ks ≡ map (λ j. placed_or (beside j) (place (n + 1) j ks)) ks = map-same _ _ (λ j. nat_eq k j ≡ false) ks later once.0 in
    (ap (λ b. placed_or (beside k) (cond b (Some n) (place (n + 1) k ks))) (nat_eq-refl k), subst (AreConsecutive (n + 1)) (sym behind) (placed_in_turn beside (n + 1) ks once.1))
  where
    later : (j : ℕ) → nat_eq k j ≡ false → placed_or (beside j) (place n j (k ∷ ks)) ≡ placed_or (beside j) (place (n + 1) j ks)
    later j apart = ap (λ b. placed_or (beside j) (cond b (Some n) (place (n + 1) j ks))) (nat_eq-apart j k (λ same. nat_eq-differ k j apart (sym same)))

renaming_in_turn : (first : ℕ) (ks : List ℕ) → EachOnce ks → AllByRecursion (λ k. is_new first k ≡ true) ks → AreConsecutive first (map (renaming first ks) ks)
renaming_in_turn first ks once new =
    let placed : map (renaming first ks) ks ≡ map (λ k. placed_or (k + length ks) (place first k ks)) ks = map-same _ _ (λ k. is_new first k ≡ true) ks (λ k e. ap (λ b. cond b (placed_or (k + length ks) (place first k ks)) k) e) new in
    subst (AreConsecutive first) (sym placed) (placed_in_turn (λ k. k + length ks) first ks once)

pub renaming-renumbers : (first : ℕ) (t : Tree) → EachOnce (numbers t) → mapped (renaming first (new_numbers first t)) t ≡ mapped same (renumbered first first t)
renaming-renumbers first t once =
    let news : List ℕ = new_numbers first t in
    anew first (renaming first news) (renaming-old first news) first t (renaming_in_turn first news (EachOnce-filter (is_new first) (numbers t) once) (all_pass (is_new first) (numbers t)))
