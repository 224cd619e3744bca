-- References stand where they stand.
use Rattle.std.specs.Prelude.{◌≡◌, ℕ, List, [], ◌∷◌, ◌++◌, Bool, true, false, cond, ◌&&◌, ◌||◌, nat_eq}
use Rattle.std.proofs.Common.{refl}
use Rattle.es_left.proofs.Booleans.{both}
use Rattle.es_lowered.specs.ClassNames.{numbered}
use Rattle.es_lowered.specs.FunctionsAround.{PlacedReference, same_place, stands_where, all_stand_where}
use Rattle.es_steps.proofs.Reflexive.{number-same}
use Rattle.es_steps.specs.KeptNodes.{pair_stands, all_pairs_stand}
use Rattle.es_unchanged.proofs.Standing.{or_left, or_right}

pub pairs-stand : (xs zs : List (ℕ × ℕ)) → ((p : ℕ × ℕ) → pair_stands p xs ≡ true → pair_stands p zs ≡ true) → all_pairs_stand xs zs ≡ true
pairs-stand [] zs h = refl
pairs-stand (x ∷ xs) zs h =
    both (h x (rw (number-same x.0, number-same x.1) refl)) (pairs-stand xs zs (λ p i. h p (or_right (nat_eq p.0 x.0 && nat_eq p.1 x.1) (pair_stands p xs) i)))

place-same : (first : ℕ) (r : PlacedReference) → same_place first r r ≡ true
place-same first r = rw (number-same r.number, pairs-stand r.around r.around (λ p i. i)) refl

pub stand-where : (first : ℕ) (rs xs : List PlacedReference) → ((r : PlacedReference) → stands_where first r rs ≡ true → stands_where first r xs ≡ true) → all_stand_where first rs xs ≡ true
stand-where first [] xs h = refl
stand-where first (r ∷ rs) xs h =
    both (h r (or_left (same_place first r r) (stands_where first r rs) (place-same first r))) (stand-where first rs xs (λ x i. h x (or_right (same_place first x r) (stands_where first x rs) i)))

-- and those of one number
pub numbered-stand : (first m : ℕ) (xs : List PlacedReference) → all_stand_where first (numbered m xs) xs ≡ true
numbered-stand first m xs = stand-where first (numbered m xs) xs (λ r i. among r xs i)
  where
    behind : (r x : PlacedReference) (b : Bool) (ys zs : List PlacedReference) → (stands_where first r ys ≡ true → stands_where first r zs ≡ true) → stands_where first r (cond b (x ∷ []) [] ++ ys) ≡ true → same_place first r x || stands_where first r zs ≡ true
    behind r x true ys zs h i = or (same_place first r x) i
      where
        or : (b : Bool) → b || stands_where first r ys ≡ true → b || stands_where first r zs ≡ true
        or true j = refl
        or false j = h j
    behind r x false ys zs h i = or_right (same_place first r x) (stands_where first r zs) (h i)

    among : (r : PlacedReference) (ys : List PlacedReference) → stands_where first r (numbered m ys) ≡ true → stands_where first r ys ≡ true
    among r [] i = i
    among r (y ∷ ys) i = behind r y (nat_eq m y.number) (numbered m ys) ys (among r ys) i
