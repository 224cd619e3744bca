-- Marks behind those of a class, told by their places.
use Rattle.std.proofs.Common.{◌≡◌, refl, sym, ap, ap₂, ◌∙◌, ℕ, ◌+◌, List, [], ◌∷◌, ◌++◌, filter, Bool, true, false, cond, not, ◌&&◌, ◌||◌, append_assoc, arith}
use Rattle.std.proofs.Math.Bool.{or-false}
use Rattle.std.proofs.lemmas.Bool.{ltb-true, ltb-false, lt-ltb, le-ltb}
use Rattle.std.proofs.lemmas.List.Folds.{list_any-append}
use Rattle.std.specs.List.{list_all, list_any}
use Rattle.std.specs.Prelude.{nat_lt}
use Rattle.es_binding_faults.proofs.HasNumbers.{has_number-append}
use Rattle.es_lowered.specs.ClassNames.{behind_class, is_behind, is_class_mark, stand_behind}
use Rattle.es_lowered.specs.Timely.{Mark}
use Rattle.es_marks.specs.Located.{located}
use Rattle.es_steps.specs.KeptNodes.{all_pairs_stand}
use Rattle.es_steps.specs.References.{has_number}
use Rattle.es_owed_class_names.specs.LocatedMarks.{is_early, is_front, is_late}

-- of the class, and around it no more than around the first
abbrev pub holds : ℕ × Mark → ℕ × Mark → Bool
holds x y = is_class_mark y.1.form && all_pairs_stand y.1.around.held x.1.around.held

-- all in front of place c
abbrev pub below : ℕ → List (ℕ × Mark) → Bool
below c xs = list_all (λ y. nat_lt y.0 c) xs

below_next : (c : ℕ) (xs : List (ℕ × Mark)) → below c xs ≡ true → below (c + 1) xs ≡ true
below_next c [] is = refl
below_next c (y ∷ xs) is = here (nat_lt y.0 c) (λ e. lt-ltb y.0 (c + 1) (omega (arith, ltb-true y.0 c e))) (below_next c xs) is
  where
    here : (b : Bool) → (b ≡ true → nat_lt y.0 (c + 1) ≡ true) → (below c xs ≡ true → below (c + 1) xs ≡ true) → (b && below c xs) ≡ true → (nat_lt y.0 (c + 1) && below (c + 1) xs) ≡ true
    here true less rest e = ap₂ (λ p q. p && q) (less refl) (rest e)
    here false less rest e = ap (λ b. cond b true (nat_lt y.0 (c + 1) && below (c + 1) xs)) e

below_more : (c : ℕ) (xs : List (ℕ × Mark)) (m : Mark) → below (c + 1) xs ≡ true → below (c + 1) (xs ++ (c, m) ∷ []) ≡ true
below_more c [] m is = ap (λ b. b && true) (lt-ltb c (c + 1) (omega arith))
below_more c (y ∷ xs) m is = here (nat_lt y.0 (c + 1)) (below_more c xs m) is
  where
    here : (b : Bool) → (below (c + 1) xs ≡ true → below (c + 1) (xs ++ (c, m) ∷ []) ≡ true) → (b && below (c + 1) xs) ≡ true → (b && below (c + 1) (xs ++ (c, m) ∷ [])) ≡ true
    here true rest e = rest e
    here false rest e = e

all_front : (x : ℕ × Mark) (xs : List (ℕ × Mark)) → below x.0 xs ≡ true → list_any (is_front x) xs ≡ list_any (holds x) xs
all_front x [] is = refl
all_front x (y ∷ xs) is = here (nat_lt y.0 x.0) (all_front x xs) is
  where
    here : (b : Bool) → (below x.0 xs ≡ true → list_any (is_front x) xs ≡ list_any (holds x) xs) → (b && below x.0 xs) ≡ true → ((b && holds x y) || list_any (is_front x) xs) ≡ (holds x y || list_any (holds x) xs)
    here true rest e = ap (λ b. holds x y || b) (rest e)
    here false rest e = ap (λ b. cond b (holds x y || list_any (holds x) xs) (list_any (is_front x) xs)) e

module _ (asked : Mark → Bool) where
  abbrev pub kept : List (ℕ × Mark) → List (ℕ × Mark)
  kept xs = filter (λ x. asked x.1) xs

  none_later : (x : ℕ × Mark) (d : ℕ) (ms : List Mark) → nat_lt d x.0 ≡ false → list_any (is_front x) (kept (located d ms)) ≡ false
  none_later x d [] later = refl
  none_later x d (m ∷ ms) later = here (asked m) (none_later x (d + 1) ms (le-ltb (d + 1) x.0 (omega (arith, ltb-false d x.0 later))))
    where
      here : (b : Bool) → list_any (is_front x) (kept (located (d + 1) ms)) ≡ false → list_any (is_front x) (cond b ((d, m) ∷ kept (located (d + 1) ms)) (kept (located (d + 1) ms))) ≡ false
      here true rest = ap (λ b. (b && holds x (d, m)) || list_any (is_front x) (kept (located (d + 1) ms))) later ∙ rest
      here false rest = rest

  -- what is in front of place c, and the marks of the class among that
  abbrev pub Front : List Mark → List (ℕ × Mark) → Type 0
  Front front xs = (x : ℕ × Mark) → is_behind x.1 front ≡ list_any (holds x) xs

  front_class : (front : List Mark) (xs : List (ℕ × Mark)) (c : ℕ) (m : Mark) → is_class_mark m.form ≡ true → Front front xs → Front (m ∷ front) (xs ++ (c, m) ∷ [])
  front_class front xs c m is fronts x =
      ap (λ b. all_pairs_stand m.around.held x.1.around.held || b) (fronts x)
      ∙ turned (all_pairs_stand m.around.held x.1.around.held) (list_any (holds x) xs)
      ∙ ap (λ b. list_any (holds x) xs || ((b && all_pairs_stand m.around.held x.1.around.held) || false)) (sym is)
      ∙ sym (list_any-append (holds x) xs ((c, m) ∷ []))
    where
      turned : (h a : Bool) → (h || a) ≡ (a || (h || false))
      turned true true = refl
      turned true false = refl
      turned false true = refl
      turned false false = refl

  front_other : (front : List Mark) (xs : List (ℕ × Mark)) (c : ℕ) (m : Mark) → is_class_mark m.form ≡ false → Front front xs → Front front (xs ++ (c, m) ∷ [])
  front_other front xs c m other fronts x =
      fronts x
      ∙ sym (or-false (list_any (holds x) xs))
      ∙ ap (λ b. list_any (holds x) xs || ((b && all_pairs_stand m.around.held x.1.around.held) || false)) (sym other)
      ∙ sym (list_any-append (holds x) xs ((c, m) ∷ []))

  behind_here : (front : List Mark) (xs : List (ℕ × Mark)) (c : ℕ) (m : Mark) (ms : List Mark) → below c xs ≡ true → Front front xs → is_behind m front ≡ list_any (is_front (c, m)) (xs ++ (c, m) ∷ kept (located (c + 1) ms))
  behind_here front xs c m ms less fronts =
      fronts (c, m)
      ∙ sym (all_front (c, m) xs less)
      ∙ sym (or-false (list_any (is_front (c, m)) xs))
      ∙ ap (λ b. list_any (is_front (c, m)) xs || b)
      (sym (none_later (c, m) (c + 1) ms (le-ltb (c + 1) c (omega arith)))
      ∙ ap (λ b. (b && holds (c, m) (c, m)) || list_any (is_front (c, m)) (kept (located (c + 1) ms))) (sym (le-ltb c c (omega arith))))
      ∙ sym (list_any-append (is_front (c, m)) xs ((c, m) ∷ kept (located (c + 1) ms)))

  pub stands : (front : List Mark) (xs : List (ℕ × Mark)) (c : ℕ) (ms : List Mark) → below c xs ≡ true → Front front xs
      → stand_behind front (filter asked ms) ≡ not (list_any (is_early (xs ++ kept (located c ms))) (kept (located c ms)))
  stands front xs c [] less fronts = refl
  stands front xs c (m ∷ ms) less fronts =
      here (asked m) (stands front xs (c + 1) ms (below_next c xs less) fronts)
      (λ is. stands (m ∷ front) (xs ++ (c, m) ∷ []) (c + 1) ms (below_more c xs m (below_next c xs less)) (front_class front xs c m is fronts))
      (λ other. stands front (xs ++ (c, m) ∷ []) (c + 1) ms (below_more c xs m (below_next c xs less)) (front_other front xs c m other fronts))
    where
      rest : List (ℕ × Mark)
      rest = kept (located (c + 1) ms)

      all : List (ℕ × Mark)
      all = xs ++ (c, m) ∷ rest

      same : not (list_any (is_early ((xs ++ (c, m) ∷ []) ++ rest)) rest) ≡ not (list_any (is_early all) rest)
      same = ap (λ ys. not (list_any (is_early ys) rest)) (append_assoc xs ((c, m) ∷ []) rest)

      both : (a b r : Bool) → a ≡ b → (a && not r) ≡ not (not b || r)
      both true b r e = ap (λ x. not (not x || r)) e
      both false b r e = ap (λ x. not (not x || r)) e

      named : (u : Bool) → is_class_mark m.form ≡ u
          → (is_class_mark m.form ≡ true → stand_behind (m ∷ front) (filter asked ms) ≡ not (list_any (is_early ((xs ++ (c, m) ∷ []) ++ rest)) rest))
          → (is_class_mark m.form ≡ false → stand_behind front (filter asked ms) ≡ not (list_any (is_early ((xs ++ (c, m) ∷ []) ++ rest)) rest))
          → cond u (stand_behind (m ∷ front) (filter asked ms)) (is_behind m front && stand_behind front (filter asked ms)) ≡ not ((not u && not (list_any (is_front (c, m)) all)) || list_any (is_early all) rest)
      named true e one other = one e ∙ same
      named false e one other =
          ap (λ b. is_behind m front && b) (other e ∙ same)
          ∙ both (is_behind m front) (list_any (is_front (c, m)) all) (list_any (is_early all) rest) (behind_here front xs c m ms less fronts)

      here : (b : Bool) → stand_behind front (filter asked ms) ≡ not (list_any (is_early (xs ++ rest)) rest)
          → (is_class_mark m.form ≡ true → stand_behind (m ∷ front) (filter asked ms) ≡ not (list_any (is_early ((xs ++ (c, m) ∷ []) ++ rest)) rest))
          → (is_class_mark m.form ≡ false → stand_behind front (filter asked ms) ≡ not (list_any (is_early ((xs ++ (c, m) ∷ []) ++ rest)) rest))
          → stand_behind front (cond b (m ∷ filter asked ms) (filter asked ms)) ≡ not (list_any (is_early (xs ++ cond b ((c, m) ∷ rest) rest)) (cond b ((c, m) ∷ rest) rest))
      here true none one other = named (is_class_mark m.form) refl one other
      here false none one other = none

  pub late : (j : ℕ) (front : List Mark) (xs : List (ℕ × Mark)) (c : ℕ) (ms : List Mark) → below c xs ≡ true → Front front xs
      → has_number j (behind_class front (filter asked ms)) ≡ list_any (is_late j (xs ++ kept (located c ms))) (kept (located c ms))
  late j front xs c [] less fronts = refl
  late j front xs c (m ∷ ms) less fronts =
      here (asked m) (late j front xs (c + 1) ms (below_next c xs less) fronts)
      (λ is. late j (m ∷ front) (xs ++ (c, m) ∷ []) (c + 1) ms (below_more c xs m (below_next c xs less)) (front_class front xs c m is fronts))
      (λ other. late j front (xs ++ (c, m) ∷ []) (c + 1) ms (below_more c xs m (below_next c xs less)) (front_other front xs c m other fronts))
    where
      rest : List (ℕ × Mark)
      rest = kept (located (c + 1) ms)

      all : List (ℕ × Mark)
      all = xs ++ (c, m) ∷ rest

      same : list_any (is_late j ((xs ++ (c, m) ∷ []) ++ rest)) rest ≡ list_any (is_late j all) rest
      same = ap (λ ys. list_any (is_late j ys) rest) (append_assoc xs ((c, m) ∷ []) rest)

      number : (b : Bool) → has_number j (cond b m.node []) ≡ (b && has_number j m.node)
      number true = refl
      number false = refl

      named : (u : Bool) → is_class_mark m.form ≡ u
          → (is_class_mark m.form ≡ true → has_number j (behind_class (m ∷ front) (filter asked ms)) ≡ list_any (is_late j ((xs ++ (c, m) ∷ []) ++ rest)) rest)
          → (is_class_mark m.form ≡ false → has_number j (behind_class front (filter asked ms)) ≡ list_any (is_late j ((xs ++ (c, m) ∷ []) ++ rest)) rest)
          → has_number j (cond u (behind_class (m ∷ front) (filter asked ms)) (cond (is_behind m front) m.node [] ++ behind_class front (filter asked ms))) ≡ (((not u && list_any (is_front (c, m)) all) && has_number j m.node) || list_any (is_late j all) rest)
      named true e one other = one e ∙ same
      named false e one other =
          has_number-append j (cond (is_behind m front) m.node []) (behind_class front (filter asked ms))
          ∙ ap₂ (λ p q. p || q) (number (is_behind m front) ∙ ap (λ b. b && has_number j m.node) (behind_here front xs c m ms less fronts)) (other e ∙ same)

      here : (b : Bool) → has_number j (behind_class front (filter asked ms)) ≡ list_any (is_late j (xs ++ rest)) rest
          → (is_class_mark m.form ≡ true → has_number j (behind_class (m ∷ front) (filter asked ms)) ≡ list_any (is_late j ((xs ++ (c, m) ∷ []) ++ rest)) rest)
          → (is_class_mark m.form ≡ false → has_number j (behind_class front (filter asked ms)) ≡ list_any (is_late j ((xs ++ (c, m) ∷ []) ++ rest)) rest)
          → has_number j (behind_class front (cond b (m ∷ filter asked ms) (filter asked ms))) ≡ list_any (is_late j (xs ++ cond b ((c, m) ∷ rest) rest)) (cond b ((c, m) ∷ rest) rest)
      here true none one other = named (is_class_mark m.form) refl one other
      here false none one other = none
