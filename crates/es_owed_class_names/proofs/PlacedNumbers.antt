-- Placed references are looked up by their numbers.
use Rattle.std.proofs.Common.{◌≡◌, refl, sym, ap, ap₂, ◌∙◌, ℕ, List, [], ◌∷◌, ◌++◌, map, filter, Bool, true, false, cond, not, ◌&&◌, ◌||◌}
use Rattle.std.proofs.Math.Bool.{and-true}
use Rattle.std.proofs.lemmas.Bool.{eqb-true}
use Rattle.std.proofs.lemmas.Bool.Decides.{Decides-eqb, same_from_decides}
use Rattle.std.specs.List.{list_all, list_any}
use Rattle.std.specs.Prelude.{nat_eq}
use Rattle.es_base.specs.Tree.{Tree}
use Rattle.es_grouped.specs.Groups.{having}
use Rattle.es_lowered.specs.ClassNames.{are_of_class, all_stand_with_class, numbered}
use Rattle.es_lowered.specs.FunctionsAround.{PlacedReference, all_stand_where, placed_references, same_place, stands_where}
use Rattle.es_steps.specs.References.{has_number}
use Rattle.es_owed_class_names.proofs.ChosenPlaces.{of_tree}
use Rattle.es_owed_class_names.specs.PlacedNumbers.{all_placed, all_stand_own, stands_named}

pub having_number : (k : ℕ) (rs : List PlacedReference) → having k (map (λ (x : PlacedReference). (x.number, x)) rs) ≡ numbered k rs
having_number k [] = refl
having_number k (r ∷ rs) = ap (λ xs. cond (nat_eq k r.number) (r ∷ []) [] ++ xs) (having_number k rs)

same_number : (a b : ℕ) → nat_eq a b ≡ nat_eq b a
same_number a b = same_from_decides _ _ (Decides-eqb a b) (λ t. sym ((Decides-eqb b a).0 t), λ e. (Decides-eqb b a).1 (sym e))

-- those of these numbers
abbrev pub named : List ℕ → List PlacedReference → List PlacedReference
named names rs = filter (λ r. has_number r.number names) rs

pub placed_named : (first : ℕ) (names : List ℕ) (t : Tree) → placed_references first (λ m s. has_number m names) false [] t ≡ named names (all_placed first t)
placed_named first names t = of_tree first (λ m s. has_number m names) false [] t

-- ---- one of some numbers

module _ (test : PlacedReference → Bool) where
  picked : (b : Bool) (r : PlacedReference) (rs : List PlacedReference) → list_any test (cond b (r ∷ rs) rs) ≡ ((b && test r) || list_any test rs)
  picked true r rs = refl
  picked false r rs = refl

  put : (b : Bool) (r : PlacedReference) (rs : List PlacedReference) → list_any test (cond b (r ∷ []) [] ++ rs) ≡ ((b && test r) || list_any test rs)
  put true r rs = refl
  put false r rs = refl

  none_named : (rs : List PlacedReference) → list_any test (named [] rs) ≡ false
  none_named [] = refl
  none_named (r ∷ rs) = none_named rs

  more_named : (k : ℕ) (names : List ℕ) (rs : List PlacedReference) → list_any test (named (k ∷ names) rs) ≡ (list_any test (numbered k rs) || list_any test (named names rs))
  more_named k names [] = refl
  more_named k names (r ∷ rs) =
      picked (nat_eq r.number k || has_number r.number names) r (named (k ∷ names) rs)
      ∙ ap₂ (λ b c. ((b || has_number r.number names) && test r) || c) (same_number r.number k) (more_named k names rs)
      ∙ joined (nat_eq k r.number) (has_number r.number names) (test r) (list_any test (numbered k rs)) (list_any test (named names rs))
      ∙ ap₂ (λ b c. b || c) (sym (put (nat_eq k r.number) r (numbered k rs))) (sym (picked (has_number r.number names) r (named names rs)))
    where
      swapped : (a g b : Bool) → (g || (a || b)) ≡ (a || (g || b))
      swapped true true b = refl
      swapped true false b = refl
      swapped false g b = refl

      joined : (e f q a b : Bool) → (((e || f) && q) || (a || b)) ≡ (((e && q) || a) || ((f && q) || b))
      joined true f true a b = refl
      joined true true false a b = refl
      joined true false false a b = refl
      joined false f q a b = swapped a (f && q) b

  pub any_named : (names : List ℕ) (rs : List PlacedReference) → list_any test (named names rs) ≡ list_any (λ k. list_any test (numbered k rs)) names
  any_named [] rs = none_named rs
  any_named (k ∷ names) rs = more_named k names rs ∙ ap (λ b. list_any test (numbered k rs) || b) (any_named names rs)

-- ---- where references stand

where_any : (first : ℕ) (r : PlacedReference) (xs : List PlacedReference) → stands_where first r xs ≡ list_any (same_place first r) xs
where_any first r [] = refl
where_any first r (x ∷ xs) = ap (λ b. same_place first r x || b) (where_any first r xs)

one_where : (first : ℕ) (r : PlacedReference) (xs : List PlacedReference) → all_stand_where first (r ∷ []) xs ≡ list_any (same_place first r) xs
one_where first r xs = and-true (stands_where first r xs) ∙ where_any first r xs

any_same : (f g : ℕ → Bool) (ks : List ℕ) → ((k : ℕ) → f k ≡ g k) → list_any f ks ≡ list_any g ks
any_same f g [] same = refl
any_same f g (k ∷ ks) same = ap₂ (λ b c. b || c) (same k) (any_same f g ks same)

stands_by_number : (first : ℕ) (names : List ℕ) (ps : List PlacedReference) (r : PlacedReference) → stands_where first r (named names ps) ≡ stands_named first names ps r
stands_by_number first names ps r =
    where_any first r (named names ps)
    ∙ any_named (same_place first r) names ps
    ∙ any_same (λ k. list_any (same_place first r) (numbered k ps)) (λ k. all_stand_where first (r ∷ []) (numbered k ps)) names (λ k. sym (one_where first r (numbered k ps)))

within : (f : ℕ → Bool) (j : ℕ) (ks : List ℕ) → has_number j ks ≡ true → list_any f ks ≡ (f j || list_any f ks)
within f j [] among = ap (λ b. cond b (f j || false) false) among
within f j (k ∷ ks) among = here (nat_eq j k) (λ e. ap f (eqb-true j k e)) (within f j ks) among
  where
    once : (a b : Bool) → (a || b) ≡ (a || (a || b))
    once true b = refl
    once false b = refl

    swapped : (a b c : Bool) → (a || (b || c)) ≡ (b || (a || c))
    swapped true true c = refl
    swapped true false c = refl
    swapped false b c = refl

    here : (b : Bool) → (b ≡ true → f j ≡ f k) → (has_number j ks ≡ true → list_any f ks ≡ (f j || list_any f ks)) → (b || has_number j ks) ≡ true → (f k || list_any f ks) ≡ (f j || (f k || list_any f ks))
    here true one rest e = once (f k) (list_any f ks) ∙ ap (λ b. b || (f k || list_any f ks)) (sym (one refl))
    here false one rest e = ap (λ b. f k || b) (rest e) ∙ swapped (f k) (f j) (list_any f ks)

-- of one number among these
numbered_named : (m : ℕ) (names : List ℕ) (rs : List PlacedReference) → has_number m names ≡ true → numbered m (named names rs) ≡ numbered m rs
numbered_named m names [] among = refl
numbered_named m names (r ∷ rs) among = here (has_number r.number names) refl (numbered_named m names rs among)
  where
    put_in : (b c : Bool) → (b ≡ true → c ≡ true) → cond c (cond b (r ∷ []) [] ++ numbered m rs) (numbered m rs) ≡ cond b (r ∷ []) [] ++ numbered m rs
    put_in true c is = ap (λ d. cond d (r ∷ numbered m rs) (numbered m rs)) (is refl)
    put_in false true is = refl
    put_in false false is = refl

    here : (c : Bool) → has_number r.number names ≡ c → numbered m (named names rs) ≡ numbered m rs → numbered m (cond c (r ∷ named names rs) (named names rs)) ≡ cond (nat_eq m r.number) (r ∷ []) [] ++ numbered m rs
    here true e h = ap (λ xs. cond (nat_eq m r.number) (r ∷ []) [] ++ xs) h
    here false e h = h ∙ put_in (nat_eq m r.number) false (λ t. sym e ∙ ap (λ k. has_number k names) (sym (eqb-true m r.number t)) ∙ among)

all_by_number : (first m : ℕ) (names : List ℕ) (ps rs : List PlacedReference) → has_number m names ≡ true → all_stand_where first (numbered m rs) (named names ps) ≡ all_stand_own first names ps (numbered m rs)
all_by_number first m names ps [] among = refl
all_by_number first m names ps (r ∷ rs) among = here (nat_eq m r.number) refl (all_by_number first m names ps rs among)
  where
    here : (b : Bool) → nat_eq m r.number ≡ b → all_stand_where first (numbered m rs) (named names ps) ≡ all_stand_own first names ps (numbered m rs) → all_stand_where first (cond b (r ∷ []) [] ++ numbered m rs) (named names ps) ≡ all_stand_own first names ps (cond b (r ∷ []) [] ++ numbered m rs)
    here true e h =
        ap₂ (λ b c. b && c)
        (stands_by_number first names ps r ∙ within (λ k. all_stand_where first (r ∷ []) (numbered k ps)) r.number names (ap (λ k. has_number k names) (sym (eqb-true m r.number e)) ∙ among))
        h
    here false e h = h

pub kept_by_number : (first m : ℕ) (names : List ℕ) (p q : Tree) → has_number m names ≡ true
    → all_stand_where first (numbered m (placed_references first (λ k s. has_number k names) false [] q)) (placed_references first (λ k s. has_number k names) false [] p) ≡ all_stand_own first names (all_placed first p) (numbered m (all_placed first q))
kept_by_number first m names p q among =
    ap₂ (λ rs ps. all_stand_where first (numbered m rs) ps) (placed_named first names q) (placed_named first names p)
    ∙ ap (λ rs. all_stand_where first rs (named names (all_placed first p))) (numbered_named m names (all_placed first q) among)
    ∙ all_by_number first m names (all_placed first p) (all_placed first q) among

-- ---- new references to names of a class

not_all : (n : ℕ) (inside : List ℕ) (qs : List Tree) (rs : List PlacedReference) → all_stand_with_class n inside qs rs ≡ not (list_any (λ r. not (are_of_class n inside qs r.around)) rs)
not_all n inside qs [] = refl
not_all n inside qs (r ∷ rs) = here (are_of_class n inside qs r.around) (not_all n inside qs rs)
  where
    here : (b : Bool) → all_stand_with_class n inside qs rs ≡ not (list_any (λ x. not (are_of_class n inside qs x.around)) rs) → (b && all_stand_with_class n inside qs rs) ≡ not (not b || list_any (λ x. not (are_of_class n inside qs x.around)) rs)
    here true h = h
    here false h = refl

pub new_by_number : (first n : ℕ) (inside names : List ℕ) (qs : List Tree) (q : Tree) → all_stand_with_class n inside qs (placed_references first (λ k s. has_number k names) false [] q) ≡ list_all (λ k. all_stand_with_class n inside qs (numbered k (all_placed first q))) names
new_by_number first n inside names qs q =
    ap (all_stand_with_class n inside qs) (placed_named first names q)
    ∙ not_all n inside qs (named names (all_placed first q))
    ∙ ap not (any_named (λ r. not (are_of_class n inside qs r.around)) names (all_placed first q))
    ∙ each names
  where
    nor : (a b : Bool) → not (a || b) ≡ (not a && not b)
    nor true b = refl
    nor false b = refl

    each : (ks : List ℕ) → not (list_any (λ k. list_any (λ r. not (are_of_class n inside qs r.around)) (numbered k (all_placed first q))) ks) ≡ list_all (λ k. all_stand_with_class n inside qs (numbered k (all_placed first q))) ks
    each [] = refl
    each (k ∷ ks) = nor (list_any (λ r. not (are_of_class n inside qs r.around)) (numbered k (all_placed first q))) (list_any (λ j. list_any (λ r. not (are_of_class n inside qs r.around)) (numbered j (all_placed first q))) ks) ∙ ap₂ (λ b c. b && c) (sym (not_all n inside qs (numbered k (all_placed first q)))) (each ks)
