-- What comes before the front of a class comes before the class and those in it.
use Rattle.std.proofs.Common.{◌≡◌, refl, sym, ap, ◌∙◌, ℕ, List, [], ◌∷◌, ◌++◌, Bool, true, false, cond, nat_eq, arith, Option, Some, None}
use Rattle.std.proofs.lemmas.Bool.Decides.{nat_tests}
use Rattle.es_base.specs.Tree.{Tree}
use Rattle.es_grouped.specs.Groups.{group, having}
use Rattle.es_grouped.specs.declared.Grouped.{Grouped}
use Rattle.es_lowered.specs.Lowered.{all_before, with_inner}
use Rattle.es_owed_initialized.proofs.PlaceOrder.{before_first}
use Rattle.es_owed_initialized.specs.Fronts.{HasFronts, first_of, front, with_fronts}
use Rattle.es_owed_initialized.specs.Order.{is_before, place}

pub before_front : (m n : ℕ) (ps qs : List Tree) → is_before (place m qs) (front ps qs n) ≡ all_before m (with_inner ps (n ∷ [])) qs
before_front m n ps qs = before_first m n _ qs

same_number : (n k : ℕ) → nat_eq n k ≡ true → k ≡ n
same_number n k is = grind (arith, nat_tests)

none_is_not : (f : Option ℕ) → None ≡ Some f → ⊥
none_is_not f is = cc

some_is : (f h : Option ℕ) → Some f ≡ Some h → h ≡ f
some_is f h is = cc

-- the front that is kept with a class is its own
kept_with : (ps qs : List Tree) (n : ℕ) (ks : List ℕ) (f : Option ℕ) → first_of (having n (with_fronts ps qs ks)) ≡ Some f → f ≡ front ps qs n
kept_with ps qs n [] f is = absurd (none_is_not f is)
kept_with ps qs n (k ∷ ks) f is = here (nat_eq n k) refl (kept_with ps qs n ks f) is
  where
    here : (b : Bool) → nat_eq n k ≡ b → (first_of (having n (with_fronts ps qs ks)) ≡ Some f → f ≡ front ps qs n)
        → first_of (cond b (front ps qs k ∷ []) [] ++ having n (with_fronts ps qs ks)) ≡ Some f → f ≡ front ps qs n
    here true same rest found = some_is (front ps qs k) f found ∙ ap (front ps qs) (same_number n k same)
    here false other rest found = rest found

pub front_kept : (ps qs : List Tree) (ks : List ℕ) (g : Grouped (Option ℕ)) (n : ℕ) (f : Option ℕ) → HasFronts ps qs ks g → first_of (group n g) ≡ Some f → f ≡ front ps qs n
front_kept ps qs ks g n f has is = kept_with ps qs n ks f (sym (ap first_of (has n)) ∙ is)
