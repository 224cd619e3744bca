-- A tree whose old numbers stand once each is numbered once its new ones are given anew.
use Rattle.std.proofs.Common.{◌≡◌, refl, sym, subst, ap, ◌∙◌, true≢false, ℕ, ◌+◌, ◌<◌, ◌≤◌, List, [], ◌∷◌, ◌++◌, length, map, Bool, true, false, length-append, arith}
use Rattle.std.specs.Prelude.{nat_eq, nat_le, filter, not, cond}
use Rattle.std.specs.List.{IsDistinct, AllByRecursion}
use Rattle.std.proofs.lemmas.List.{map-append}
use Rattle.std.proofs.lemmas.List.Elements.{filter-append}
use Rattle.std.proofs.lemmas.Bool.{le-leb}
use Rattle.std.proofs.Math.Dec.{leb-zero}
use Rattle.es_base.specs.Tree.{Tree, Part, Parts, Node, end, more, child, absent, list, string, no_string, boolean, literal}
use Rattle.es_base.specs.Preorder.{preorder_of, preorder_of_part, number_of, one_if, either, news, news_of, news_of_part, renumbered, renumbered_part, renumbered_parts}
use Rattle.es_base.specs.Numbered.{numbers, is_new, is_old, AreConsecutive, EachOnce, IsNumbered, new_numbers, old_numbers}

-- the numbers of the nodes of a part and of parts
abbrev numbers_of_part : Part → List ℕ
numbers_of_part p = map number_of (preorder_of_part p)

abbrev numbers_of : Parts → List ℕ
numbers_of ps = map number_of (preorder_of ps)

numbers_of-more : (test : ℕ → Bool) (p : Part) (rest : Parts) → filter test (numbers_of (more p rest)) ≡ filter test (numbers_of_part p) ++ filter test (numbers_of rest)
numbers_of-more test p rest = ap (filter test) (map-append number_of (preorder_of_part p) (preorder_of rest)) ∙ filter-append test (numbers_of_part p) (numbers_of rest)

-- ---- the old numbers stay

old_stays : (f n id : ℕ) (b : Bool) (ks ls : List ℕ) → f ≤ n → nat_le f id ≡ b → filter (is_old f) ks ≡ filter (is_old f) ls → filter (is_old f) (either b n id ∷ ks) ≡ filter (is_old f) (id ∷ ls)
old_stays f n id true ks ls l e rest = rw (le-leb f n l, e) rest
old_stays f n id false ks ls l e rest = rw e (ap (λ zs. id ∷ zs) rest)

mutual
  old_numbers-renumbered : (f n : ℕ) (t : Tree) → f ≤ n → old_numbers f (renumbered f n t) ≡ old_numbers f t
  old_numbers-renumbered f n (Node kind id span semantic_id parts) l =
      old_stays f n id (nat_le f id) (numbers_of (renumbered_parts f (n + one_if (nat_le f id)) parts)) (numbers_of parts) l refl
      (old_numbers_of-renumbered f (n + one_if (nat_le f id)) parts (omega (arith, l)))

  old_numbers_of_part-renumbered : (f n : ℕ) (p : Part) → f ≤ n → filter (is_old f) (numbers_of_part (renumbered_part f n p)) ≡ filter (is_old f) (numbers_of_part p)
  old_numbers_of_part-renumbered f n (child t) l = old_numbers-renumbered f n t l
  old_numbers_of_part-renumbered f n absent l = refl
  old_numbers_of_part-renumbered f n (list all) l = old_numbers_of-renumbered f n all l
  old_numbers_of_part-renumbered f n (string chars) l = refl
  old_numbers_of_part-renumbered f n no_string l = refl
  old_numbers_of_part-renumbered f n (boolean value) l = refl
  old_numbers_of_part-renumbered f n (literal value) l = refl

  old_numbers_of-renumbered : (f n : ℕ) (ps : Parts) → f ≤ n → filter (is_old f) (numbers_of (renumbered_parts f n ps)) ≡ filter (is_old f) (numbers_of ps)
  old_numbers_of-renumbered f n end l = refl
  old_numbers_of-renumbered f n (more p rest) l =
      numbers_of-more (is_old f) (renumbered_part f n p) (renumbered_parts f (n + news_of_part f p) rest)
      ∙ ap (λ ks. ks ++ filter (is_old f) (numbers_of (renumbered_parts f (n + news_of_part f p) rest))) (old_numbers_of_part-renumbered f n p l)
      ∙ ap (λ ks. filter (is_old f) (numbers_of_part p) ++ ks) (old_numbers_of-renumbered f (n + news_of_part f p) rest (omega (arith, l)))
      ∙ sym (numbers_of-more (is_old f) p rest)

-- ---- the new numbers stand in turn

-- n, n + 1, .. and how many
record Turn (n k : ℕ) (ks : List ℕ) : Type 0 where
  consecutive : AreConsecutive n ks
  many : length ks ≡ k

AreConsecutive-append : (n k : ℕ) (xs ys : List ℕ) → AreConsecutive n xs → length xs ≡ k → AreConsecutive (n + k) ys → AreConsecutive n (xs ++ ys)
AreConsecutive-append n k [] ys i e j =
    let same : n + k ≡ n = omega (arith, e) in
    subst (λ m. AreConsecutive m ys) same j
AreConsecutive-append n k (x ∷ xs) ys i e j =
    let same : n + k ≡ n + 1 + length xs = omega (arith, e) in
    (i.0, AreConsecutive-append (n + 1) (length xs) xs ys i.1 refl (subst (λ m. AreConsecutive m ys) same j))

turn-append : (n j k : ℕ) (xs ys : List ℕ) → Turn n j xs → Turn (n + j) k ys → Turn n (j + k) (xs ++ ys)
turn-append n j k xs ys s t = record {
  consecutive = AreConsecutive-append n j xs ys s.consecutive s.many t.consecutive;
  many = omega (arith, length-append xs ys, s.many, t.many);
}

new_first : (f n id k : ℕ) (b : Bool) (ks : List ℕ) → f ≤ n → nat_le f id ≡ b → Turn (n + one_if b) k (filter (is_new f) ks) → Turn n (one_if b + k) (filter (is_new f) (either b n id ∷ ks))
new_first f n id k true ks l e t = rw (le-leb f n l) (record { consecutive = (refl, t.consecutive); many = omega (arith, t.many) })
new_first f n id k false ks l e t =
    let same : n + 0 ≡ n = omega arith in
    rw e (record { consecutive = subst (λ m. AreConsecutive m (filter (is_new f) ks)) same t.consecutive; many = omega (arith, t.many) })

mutual
  new_numbers-renumbered : (f n : ℕ) (t : Tree) → f ≤ n → Turn n (news f t) (new_numbers f (renumbered f n t))
  new_numbers-renumbered f n (Node kind id span semantic_id parts) l =
      new_first f n id (news_of f parts) (nat_le f id) (numbers_of (renumbered_parts f (n + one_if (nat_le f id)) parts)) l refl
      (new_numbers_of-renumbered f (n + one_if (nat_le f id)) parts (omega (arith, l)))

  new_numbers_of_part-renumbered : (f n : ℕ) (p : Part) → f ≤ n → Turn n (news_of_part f p) (filter (is_new f) (numbers_of_part (renumbered_part f n p)))
  new_numbers_of_part-renumbered f n (child t) l = new_numbers-renumbered f n t l
  new_numbers_of_part-renumbered f n absent l = record { consecutive = tt; many = refl }
  new_numbers_of_part-renumbered f n (list all) l = new_numbers_of-renumbered f n all l
  new_numbers_of_part-renumbered f n (string chars) l = record { consecutive = tt; many = refl }
  new_numbers_of_part-renumbered f n no_string l = record { consecutive = tt; many = refl }
  new_numbers_of_part-renumbered f n (boolean value) l = record { consecutive = tt; many = refl }
  new_numbers_of_part-renumbered f n (literal value) l = record { consecutive = tt; many = refl }

  new_numbers_of-renumbered : (f n : ℕ) (ps : Parts) → f ≤ n → Turn n (news_of f ps) (filter (is_new f) (numbers_of (renumbered_parts f n ps)))
  new_numbers_of-renumbered f n end l = record { consecutive = tt; many = refl }
  new_numbers_of-renumbered f n (more p rest) l =
      rw (numbers_of-more (is_new f) (renumbered_part f n p) (renumbered_parts f (n + news_of_part f p) rest))
      (turn-append n (news_of_part f p) (news_of f rest) _ _ (new_numbers_of_part-renumbered f n p l) (new_numbers_of-renumbered f (n + news_of_part f p) rest (omega (arith, l))))

-- ---- each once

nat_eq-apart : (x y : ℕ) → (x ≡ y → ⊥) → nat_eq x y ≡ false
nat_eq-apart x y apart = grind (arith, apart)

above : (x n : ℕ) (ks : List ℕ) → x < n → AreConsecutive n ks → AllByRecursion (λ y. nat_eq x y ≡ false) ks
above x n [] l i = tt
above x n (k ∷ ks) l i = (nat_eq-apart x k (λ e. omega (arith, l, e, i.0)), above x (n + 1) ks (omega (arith, l)) i.1)

EachOnce-consecutive : (n : ℕ) (ks : List ℕ) → AreConsecutive n ks → EachOnce ks
unfolding IsDistinct
EachOnce-consecutive n [] i = tt
EachOnce-consecutive n (k ∷ ks) i = (above k (n + 1) ks (omega (arith, i.0)) i.1, EachOnce-consecutive (n + 1) ks i.1)

-- a number that is new is none that is old
new_old_apart : (f x y : ℕ) → is_new f x ≡ true → is_new f y ≡ false → nat_eq x y ≡ false
new_old_apart f x y p q = nat_eq-apart x y (λ e. true≢false (sym p ∙ ap (is_new f) e ∙ q))

old_new_apart : (f x y : ℕ) → is_new f x ≡ false → is_new f y ≡ true → nat_eq x y ≡ false
old_new_apart f x y p q = nat_eq-apart x y (λ e. true≢false (sym q ∙ ap (is_new f) (sym e) ∙ p))

abbrev Apart : ℕ → List ℕ → Type 0
Apart x ks = AllByRecursion (λ y. nat_eq x y ≡ false) ks

new_from_old : (f x : ℕ) (ks : List ℕ) → is_new f x ≡ true → Apart x (filter (is_old f) ks)
new_from_old f x [] p = tt
new_from_old f x (k ∷ ks) p = kept (is_new f k) refl (new_from_old f x ks p)
  where
    kept : (b : Bool) → is_new f k ≡ b → Apart x (filter (is_old f) ks) → Apart x (cond (not b) (k ∷ filter (is_old f) ks) (filter (is_old f) ks))
    kept true e rest = rest
    kept false e rest = (new_old_apart f x k p e, rest)

old_from_new : (f x : ℕ) (ks : List ℕ) → is_new f x ≡ false → Apart x (filter (is_new f) ks)
old_from_new f x [] p = tt
old_from_new f x (k ∷ ks) p = kept (is_new f k) refl (old_from_new f x ks p)
  where
    kept : (b : Bool) → is_new f k ≡ b → Apart x (filter (is_new f) ks) → Apart x (cond b (k ∷ filter (is_new f) ks) (filter (is_new f) ks))
    kept true e rest = (old_new_apart f x k p e, rest)
    kept false e rest = rest

Apart-parted : (f x : ℕ) (ks : List ℕ) → Apart x (filter (is_new f) ks) → Apart x (filter (is_old f) ks) → Apart x ks
Apart-parted f x [] a b = tt
Apart-parted f x (k ∷ ks) a b = whole (Apart-parted f x ks) (is_new f k) a b
  where
    whole : (Apart x (filter (is_new f) ks) → Apart x (filter (is_old f) ks) → Apart x ks) → (c : Bool) → Apart x (cond c (k ∷ filter (is_new f) ks) (filter (is_new f) ks)) → Apart x (cond (not c) (k ∷ filter (is_old f) ks) (filter (is_old f) ks)) → Apart x (k ∷ ks)
    whole rest true a b = (a.0, rest a.1 b)
    whole rest false a b = (b.0, rest a b.1)

EachOnce-parted : (f : ℕ) (ks : List ℕ) → EachOnce (filter (is_new f) ks) → EachOnce (filter (is_old f) ks) → EachOnce ks
unfolding IsDistinct
EachOnce-parted f [] a b = tt
EachOnce-parted f (k ∷ ks) a b = whole (EachOnce-parted f ks) (is_new f k) refl a b
  where
    whole : (EachOnce (filter (is_new f) ks) → EachOnce (filter (is_old f) ks) → EachOnce ks) → (c : Bool) → is_new f k ≡ c → EachOnce (cond c (k ∷ filter (is_new f) ks) (filter (is_new f) ks)) → EachOnce (cond (not c) (k ∷ filter (is_old f) ks) (filter (is_old f) ks)) → EachOnce (k ∷ ks)
    whole rest true e a b = (Apart-parted f k ks a.0 (new_from_old f k ks e), rest a.1 b)
    whole rest false e a b = (Apart-parted f k ks (old_from_new f k ks e) b.0, rest a b.1)

-- ---- the theorems

pub IsNumbered-renumbered : (f : ℕ) (t : Tree) → EachOnce (old_numbers f t) → IsNumbered f (renumbered f f t)
IsNumbered-renumbered f t once =
    let new : Turn f (news f t) (new_numbers f (renumbered f f t)) = new_numbers-renumbered f f t (omega arith) in
    record {
      once = EachOnce-parted f (numbers (renumbered f f t)) (EachOnce-consecutive f _ new.consecutive) (subst EachOnce (sym (old_numbers-renumbered f f t (omega arith))) once);
      consecutive = new.consecutive;
    }

none_old : (ks : List ℕ) → filter (is_old 0) ks ≡ []
none_old [] = refl
none_old (k ∷ ks) = rw (leb-zero k) (none_old ks)

pub EachOnce-old_zero : (t : Tree) → EachOnce (old_numbers 0 t)
unfolding IsDistinct
EachOnce-old_zero t = subst EachOnce (sym (none_old (numbers t))) tt
