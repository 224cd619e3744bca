-- What holds the classes of functions around a mark is looked up by their numbers.
use Rattle.std.proofs.Common.{◌≡◌, refl, sym, ap, ◌∙◌, true≢false, ℕ, List, [], ◌∷◌, ◌++◌, Bool, true, false, cond, ◌||◌, nat_eq, arith}
use Rattle.std.proofs.Math.Bool.{or-false}
use Rattle.std.proofs.lemmas.Bool.Decides.{nat_tests}
use Rattle.std.specs.List.{list_any}
use Rattle.es_grouped.specs.Groups.{having}
use Rattle.es_lowered.specs.Timely.{Mark, held_by, held_of, is_around}
use Rattle.es_steps.specs.Values.{String}
use Rattle.es_marks.specs.MethodFunctions.{any_list, helds, joined, stands_for}

abbrev pub Parts : Type 0
Parts = List (ℕ × ℕ)

same_number : (m n : ℕ) → nat_eq m n ≡ nat_eq n m
same_number m n = grind (arith, nat_tests)

-- of those that run later
abbrev pub held_later : List (ℕ × Bool) → List (ℕ × Parts) → Parts
held_later later [] = []
held_later later (x ∷ xs) = cond (is_around x.0 later) x.1 [] ++ held_later later xs

by_helds : (ms : List Mark) (later : List (ℕ × Bool)) (fs : List (ℕ × String)) → held_by ms later fs ≡ held_later later (helds ms fs)
by_helds ms later [] = refl
by_helds ms later (f ∷ fs) = ap (λ (hs : Parts). cond (is_around f.0 later) (held_of f.1 ms) [] ++ hs) (by_helds ms later fs)

none_later : (xs : List (ℕ × Parts)) → held_later [] xs ≡ []
none_later [] = refl
none_later (x ∷ xs) = none_later xs

not_first : (g : ℕ × Bool) (gs : List (ℕ × Bool)) (xs : List (ℕ × Parts)) → stands_for xs g ≡ false → held_later (g ∷ gs) xs ≡ held_later gs xs
not_first g gs [] none = refl
not_first g gs (x ∷ xs) none = here (nat_eq g.0 x.0) refl (not_first g gs xs) none
  where
    here : (b : Bool) → nat_eq g.0 x.0 ≡ b → (stands_for xs g ≡ false → held_later (g ∷ gs) xs ≡ held_later gs xs) → any_list (cond b (x.1 ∷ []) [] ++ having g.0 xs) ≡ false
        → held_later (g ∷ gs) (x ∷ xs) ≡ cond (is_around x.0 gs) x.1 [] ++ held_later gs xs
    here true is rest none = absurd (true≢false none)
    here false is rest none =
        ap (λ b. cond (b || is_around x.0 gs) x.1 [] ++ held_later (g ∷ gs) xs) (same_number x.0 g.0 ∙ is)
        ∙ ap (λ (hs : Parts). cond (is_around x.0 gs) x.1 [] ++ hs) (rest none)

-- none of these functions is one of the first, nor of the others
apart : (gs : List (ℕ × Bool)) (x : ℕ × Parts) (xs : List (ℕ × Parts)) → list_any (stands_for (x ∷ xs)) gs ≡ false → (is_around x.0 gs ≡ false) × (list_any (stands_for xs) gs ≡ false)
apart [] x xs none = (refl, refl)
apart (g ∷ gs) x xs none = here (nat_eq g.0 x.0) refl (apart gs x xs) none
  where
    behind : nat_eq g.0 x.0 ≡ false → (list_any (stands_for (x ∷ xs)) gs ≡ false → (is_around x.0 gs ≡ false) × (list_any (stands_for xs) gs ≡ false))
        → (a : Bool) → (a || list_any (stands_for (x ∷ xs)) gs) ≡ false → ((nat_eq x.0 g.0 || is_around x.0 gs) ≡ false) × ((a || list_any (stands_for xs) gs) ≡ false)
    behind is rest true e = absurd (true≢false e)
    behind is rest false e = (ap (λ b. b || is_around x.0 gs) (same_number x.0 g.0 ∙ is) ∙ (rest e).0, (rest e).1)

    here : (b : Bool) → nat_eq g.0 x.0 ≡ b → (list_any (stands_for (x ∷ xs)) gs ≡ false → (is_around x.0 gs ≡ false) × (list_any (stands_for xs) gs ≡ false))
        → (any_list (cond b (x.1 ∷ []) [] ++ having g.0 xs) || list_any (stands_for (x ∷ xs)) gs) ≡ false
        → ((nat_eq x.0 g.0 || is_around x.0 gs) ≡ false) × ((any_list (having g.0 xs) || list_any (stands_for xs) gs) ≡ false)
    here true is rest none = absurd (true≢false none)
    here false is rest none = behind is rest (any_list (having g.0 xs)) none

first_alone : (g : ℕ × Bool) (gs : List (ℕ × Bool)) (xs : List (ℕ × Parts)) → list_any (stands_for xs) gs ≡ false → held_later (g ∷ gs) xs ≡ joined (having g.0 xs)
first_alone g gs [] none = refl
first_alone g gs (x ∷ xs) none =
    ap (λ b. cond (nat_eq x.0 g.0 || b) x.1 [] ++ held_later (g ∷ gs) xs) (apart gs x xs none).0
    ∙ ap (λ b. cond b x.1 [] ++ held_later (g ∷ gs) xs) (or-false (nat_eq x.0 g.0) ∙ same_number x.0 g.0)
    ∙ here (nat_eq g.0 x.0) (first_alone g gs xs (apart gs x xs none).1)
  where
    here : (b : Bool) → held_later (g ∷ gs) xs ≡ joined (having g.0 xs) → cond b x.1 [] ++ held_later (g ∷ gs) xs ≡ joined (cond b (x.1 ∷ []) [] ++ having g.0 xs)
    here true h = ap (λ (hs : Parts). x.1 ++ hs) h
    here false h = h

module _ (ms : List Mark) (fs : List (ℕ × String)) where
  pub held_by_none : held_by ms [] fs ≡ []
  held_by_none = by_helds ms [] fs ∙ none_later (helds ms fs)

  pub held_by_others : (g : ℕ × Bool) (gs : List (ℕ × Bool)) → stands_for (helds ms fs) g ≡ false → held_by ms (g ∷ gs) fs ≡ held_by ms gs fs
  held_by_others g gs none = by_helds ms (g ∷ gs) fs ∙ not_first g gs (helds ms fs) none ∙ sym (by_helds ms gs fs)

  pub held_by_first : (g : ℕ × Bool) (gs : List (ℕ × Bool)) → list_any (stands_for (helds ms fs)) gs ≡ false → held_by ms (g ∷ gs) fs ≡ joined (having g.0 (helds ms fs))
  held_by_first g gs none = by_helds ms (g ∷ gs) fs ∙ first_alone g gs (helds ms fs) none
