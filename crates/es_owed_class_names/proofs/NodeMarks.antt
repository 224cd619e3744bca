-- Marks of nodes, by the numbers of these.
use Rattle.std.proofs.Common.{◌≡◌, refl, sym, ap, ap₂, ◌∙◌, ℕ, ◌+◌, List, [], ◌∷◌, ◌++◌, filter, Bool, true, false, cond, not, ◌&&◌, ◌||◌, append_assoc, Option, Some, None, option_to_list}
use Rattle.std.proofs.Math.Bool.{and-false, and-true, or-true}
use Rattle.std.proofs.lemmas.Bool.{eqb-true}
use Rattle.std.proofs.lemmas.Bool.Decides.{Decides-eqb, same_from_decides}
use Rattle.std.proofs.lemmas.List.Folds.{list_any-append}
use Rattle.std.specs.List.{list_any}
use Rattle.std.specs.Prelude.{nat_eq, nat_lt}
use Rattle.es_grouped.specs.Groups.{having}
use Rattle.es_lowered.specs.ClassNames.{any_among, behind_class, is_class_mark, stand_behind}
use Rattle.es_lowered.specs.Timely.{Mark}
use Rattle.es_marks.specs.Located.{located}
use Rattle.es_marks.specs.Marks.{mark_of, marks_of}
use Rattle.es_marks.specs.declared.marks.Mark as code
use Rattle.es_steps.specs.KeptNodes.{all_pairs_stand}
use Rattle.es_steps.specs.References.{has_number}
use Rattle.es_owed_class_names.proofs.LocatedMarks.{late, stands}
use Rattle.es_owed_class_names.specs.LocatedMarks.{class_front, class_marks, is_early, is_front, of_node, of_nodes, with_nodes, with_number}

same_number : (a b : ℕ) → nat_eq a b ≡ nat_eq b a
same_number a b = same_from_decides _ _ (Decides-eqb a b) (λ t. sym ((Decides-eqb b a).0 t), λ e. (Decides-eqb b a).1 (sym e))

pub more_among : (k : ℕ) (ks ns : List ℕ) → any_among (k ∷ ks) ns ≡ (has_number k ns || any_among ks ns)
more_among k ks [] = refl
more_among k ks (m ∷ ns) =
    ap₂ (λ p q. (p || has_number m ks) || q) (same_number m k) (more_among k ks ns)
    ∙ shuffled (nat_eq k m) (has_number m ks) (has_number k ns) (any_among ks ns)
  where
    shuffled : (a b c d : Bool) → ((a || b) || (c || d)) ≡ ((a || c) || (b || d))
    shuffled true b c d = refl
    shuffled false true true d = refl
    shuffled false true false d = refl
    shuffled false false c d = refl

module _ (test : ℕ × Mark → Bool) where
  picked : (b : Bool) (x : ℕ × Mark) (xs : List (ℕ × Mark)) → list_any test (cond b (x ∷ xs) xs) ≡ ((b && test x) || list_any test xs)
  picked true x xs = refl
  picked false x xs = refl

  none : (xs : List (ℕ × Mark)) → false ≡ list_any test (filter (λ x. any_among [] x.1.node) xs)
  none [] = refl
  none (x ∷ xs) = none xs ∙ ap (λ b. list_any test (cond b (x ∷ filter (λ y. any_among [] y.1.node) xs) (filter (λ y. any_among [] y.1.node) xs))) (nothing x.1.node)
    where
      nothing : (ns : List ℕ) → false ≡ any_among [] ns
      nothing [] = refl
      nothing (n ∷ ns) = nothing ns

  more : (k : ℕ) (ks : List ℕ) (xs : List (ℕ × Mark)) → (list_any test (of_node k xs) || list_any test (filter (λ x. any_among ks x.1.node) xs)) ≡ list_any test (filter (λ x. any_among (k ∷ ks) x.1.node) xs)
  more k ks [] = refl
  more k ks (x ∷ xs) =
      ap₂ (λ p q. p || q) (picked (has_number k x.1.node) x (of_node k xs)) (picked (any_among ks x.1.node) x (filter (λ y. any_among ks y.1.node) xs))
      ∙ joined (has_number k x.1.node) (any_among ks x.1.node) (test x) (list_any test (of_node k xs)) (list_any test (filter (λ y. any_among ks y.1.node) xs))
      ∙ ap₂ (λ p q. (p && test x) || q) (sym (more_among k ks x.1.node)) (more k ks xs)
      ∙ sym (picked (any_among (k ∷ ks) x.1.node) x (filter (λ y. any_among (k ∷ ks) y.1.node) xs))
    where
      swapped : (a g b : Bool) → (a || (g || b)) ≡ (g || (a || b))
      swapped true true b = refl
      swapped true false b = refl
      swapped false g b = refl

      joined : (e f q a b : Bool) → (((e && q) || a) || ((f && q) || b)) ≡ (((e || f) && q) || (a || b))
      joined true f true a b = refl
      joined true true false a b = refl
      joined true false false a b = refl
      joined false f q a b = swapped a (f && q) b

  pub any_of : (ks : List ℕ) (xs : List (ℕ × Mark)) → list_any test (of_nodes ks xs) ≡ list_any test (filter (λ x. any_among ks x.1.node) xs)
  any_of [] xs = none xs
  any_of (k ∷ ks) xs = list_any-append test (of_node k xs) (of_nodes ks xs) ∙ ap (λ b. list_any test (of_node k xs) || b) (any_of ks xs) ∙ more k ks xs

  pub any_more : (k : ℕ) (ks : List ℕ) (xs : List (ℕ × Mark)) → list_any test (of_nodes (k ∷ ks) xs) ≡ (list_any test (of_node k xs) || list_any test (of_nodes ks xs))
  any_more k ks xs = list_any-append test (of_node k xs) (of_nodes ks xs)

-- ---- looked up by numbers

pub having_node : (k c : ℕ) (ms : List code.Mark) → having k (with_nodes (located c (marks_of ms))) ≡ of_node k (located c (marks_of ms))
having_node k c [] = refl
having_node k c (m ∷ ms) = here m.node (having_node k (c + 1) ms)
  where
    x : ℕ × Mark
    x = (c, mark_of m)

    rest : List (ℕ × (ℕ × Mark))
    rest = with_nodes (located (c + 1) (marks_of ms))

    one : (j : ℕ) (b : Bool) → having k rest ≡ of_node k (located (c + 1) (marks_of ms)) → cond b (x ∷ []) [] ++ having k rest ≡ cond (b || false) (x ∷ of_node k (located (c + 1) (marks_of ms))) (of_node k (located (c + 1) (marks_of ms)))
    one j true h = ap (λ xs. x ∷ xs) h
    one j false h = h

    here : (o : Option ℕ) → having k rest ≡ of_node k (located (c + 1) (marks_of ms)) → having k (with_number (option_to_list o) x ++ rest) ≡ cond (has_number k (option_to_list o)) (x ∷ of_node k (located (c + 1) (marks_of ms))) (of_node k (located (c + 1) (marks_of ms)))
    here None h = h
    here (Some j) h = one j (nat_eq k j) h

-- ---- those of the class

class_append : (xs ys : List (ℕ × Mark)) → class_marks (xs ++ ys) ≡ class_marks xs ++ class_marks ys
class_append [] ys = refl
class_append (x ∷ xs) ys = ap (λ zs. class_front x ++ zs) (class_append xs ys) ∙ sym (append_assoc (class_front x) (class_marks xs) (class_marks ys))

pub class_more : (k : ℕ) (ks : List ℕ) (xs : List (ℕ × Mark)) → class_marks (of_nodes (k ∷ ks) xs) ≡ class_marks (of_node k xs) ++ class_marks (of_nodes ks xs)
class_more k ks xs = class_append (of_node k xs) (of_nodes ks xs)

front_class : (x : ℕ × Mark) (ys : List (ℕ × Mark)) → list_any (is_front x) (class_marks ys) ≡ list_any (is_front x) ys
front_class x [] = refl
front_class x (y ∷ ys) = here (is_class_mark y.1.form) refl (front_class x ys)
  where
    here : (u : Bool) → is_class_mark y.1.form ≡ u → list_any (is_front x) (class_marks ys) ≡ list_any (is_front x) ys → list_any (is_front x) (cond u (y ∷ []) [] ++ class_marks ys) ≡ (is_front x y || list_any (is_front x) ys)
    here true e h = ap (λ b. is_front x y || b) h
    here false e h =
        h
        ∙ ap (λ b. b || list_any (is_front x) ys)
        (sym (ap (λ b. nat_lt y.0 x.0 && (b && all_pairs_stand y.1.around.held x.1.around.held)) e ∙ and-false (nat_lt y.0 x.0)))

module _ (ks : List ℕ) (ms : List Mark) where
  abbrev pub asked : List (ℕ × Mark)
  asked = filter (λ x. any_among ks x.1.node) (located 0 ms)

  abbrev pub fronts : List (ℕ × Mark)
  fronts = class_marks (of_nodes ks (located 0 ms))

  same_front : (x : ℕ × Mark) → list_any (is_front x) asked ≡ list_any (is_front x) fronts
  same_front x = sym (any_of (is_front x) ks (located 0 ms)) ∙ sym (front_class x (of_nodes ks (located 0 ms)))

  pub standing : stand_behind [] (filter (λ m. any_among ks m.node) ms) ≡ not (list_any (is_early fronts) (of_nodes ks (located 0 ms)))
  standing =
      stands (λ m. any_among ks m.node) [] [] 0 ms refl (λ x. refl)
      ∙ ap not
      (ap (λ (test : ℕ × Mark → Bool). list_any test asked) (λ i. λ x. not (is_class_mark x.1.form) && not (same_front x i))
      ∙ sym (any_of (is_early fronts) ks (located 0 ms)))

  -- one that is asked for
  module _ (j : ℕ) (among : has_number j ks ≡ true) where
    asked_node : (ns : List ℕ) → has_number j ns ≡ true → any_among ks ns ≡ true
    asked_node [] is = is
    asked_node (n ∷ ns) is = here (nat_eq j n) (λ e. ap (λ x. has_number x ks) (sym (eqb-true j n e)) ∙ among) (asked_node ns) is
      where
        here : (b : Bool) → (b ≡ true → has_number n ks ≡ true) → (has_number j ns ≡ true → any_among ks ns ≡ true) → (b || has_number j ns) ≡ true → (has_number n ks || any_among ks ns) ≡ true
        here true one rest e = ap (λ c. c || any_among ks ns) (one refl)
        here false one rest e = ap (λ c. has_number n ks || c) (rest e) ∙ or-true (has_number n ks)

    late_here : (test : ℕ × Mark → Bool) (xs : List (ℕ × Mark)) → list_any (λ x. test x && has_number j x.1.node) (filter (λ x. any_among ks x.1.node) xs) ≡ list_any test (of_node j xs)
    late_here test [] = refl
    late_here test (x ∷ xs) =
        picked (λ y. test y && has_number j y.1.node) (any_among ks x.1.node) x (filter (λ y. any_among ks y.1.node) xs)
        ∙ ap (λ b. (any_among ks x.1.node && (test x && has_number j x.1.node)) || b) (late_here test xs)
        ∙ ap (λ b. b || list_any test (of_node j xs)) (one (any_among ks x.1.node) (has_number j x.1.node) (test x) (asked_node x.1.node))
        ∙ sym (picked test (has_number j x.1.node) x (of_node j xs))
      where
        one : (a b t : Bool) → (b ≡ true → a ≡ true) → (a && (t && b)) ≡ (b && t)
        one a true t e = ap (λ c. c && (t && true)) (e refl) ∙ and-true t
        one a false t e = ap (λ c. a && c) (and-false t) ∙ and-false a

    pub lateness : has_number j (behind_class [] (filter (λ m. any_among ks m.node) ms)) ≡ list_any (λ x. not (is_class_mark x.1.form) && list_any (is_front x) fronts) (of_node j (located 0 ms))
    lateness =
        late (λ m. any_among ks m.node) j [] [] 0 ms refl (λ x. refl)
        ∙ ap (λ (test : ℕ × Mark → Bool). list_any test asked) (λ i. λ x. (not (is_class_mark x.1.form) && same_front x i) && has_number j x.1.node)
        ∙ late_here (λ x. not (is_class_mark x.1.form) && list_any (is_front x) fronts) (located 0 ms)
