-- Lists of numbers with values, compared item by item.
use Rattle.std.proofs.Common.{◌≡◌, refl, sym, ap, ◌∙◌, suc, List, [], ◌∷◌, Bool, true, false, length, ◌&&◌, nat_eq, map}
use Rattle.es_steps.specs.SameMeanings.{same_list, same_numbered}
use Rattle.es_by_number.specs.Numbered.{numbered, pairs}
use Rattle.es_by_number.specs.declared.numbered.Numbered.{Numbered}

and_none : (a : Bool) → (a && false) ≡ false
and_none true = refl
and_none false = refl

-- lists of two lengths are two
pub other_length : {A : Type 0} (same : A → A → Bool) (xs ys : List A) → (length xs ≡ length ys → ⊥) → same_list same xs ys ≡ false
other_length same [] [] other = absurd (other refl)
other_length same [] (y ∷ ys) other = refl
other_length same (x ∷ xs) [] other = refl
other_length same (x ∷ xs) (y ∷ ys) other = ap (λ b. same x y && b) (other_length same xs ys (λ e. other (ap suc e))) ∙ and_none (same x y)

-- the items as definitions see them
pub same_viewed : {A B : Type 0} (same : B → B → Bool) (view : A → B) (xs ys : List A) → same_list (λ x y. same (view x) (view y)) xs ys ≡ same_list same (map view xs) (map view ys)
same_viewed same view [] [] = refl
same_viewed same view [] (y ∷ ys) = refl
same_viewed same view (x ∷ xs) [] = refl
same_viewed same view (x ∷ xs) (y ∷ ys) = ap (λ b. same (view x) (view y) && b) (same_viewed same view xs ys)

pub same_pairs : {T : Type 0} (same : T → T → Bool) (xs ys : List (Numbered T)) → same_list (λ x y. nat_eq x.number y.number && same x.value y.value) xs ys ≡ same_list (same_numbered same) (pairs xs) (pairs ys)
same_pairs {T} same xs ys = same_viewed (same_numbered same) (λ (x : Numbered T). (x.number, x.value)) xs ys

pub same_numbered_viewed : {T A : Type 0} (same : A → A → Bool) (view : T → A) (xs ys : List (Numbered T)) → same_list (same_numbered (λ a b. same (view a) (view b))) (pairs xs) (pairs ys) ≡ same_list (same_numbered same) (numbered view xs) (numbered view ys)
same_numbered_viewed {T} same view xs ys =
    sym (same_pairs (λ a b. same (view a) (view b)) xs ys)
    ∙ same_viewed (same_numbered same) (λ (x : Numbered T). (x.number, view x.value)) xs ys
