-- The places of a class are those of its number.
use Rattle.std.proofs.Common.{◌≡◌, refl, ap, ℕ, List, [], ◌∷◌, ◌++◌, Bool, true, false, cond, ◌&&◌, ◌||◌, nat_eq}
use Rattle.es_grouped.specs.Groups.{having}
use Rattle.es_steps.specs.KeptNodes.{pair_stands}
use Rattle.es_steps.specs.References.{has_number}

pub place_by_class : (n place : ℕ) (ps : List (ℕ × ℕ)) → has_number place (having n ps) ≡ pair_stands (n, place) ps
place_by_class n place [] = refl
place_by_class n place (p ∷ ps) = here (nat_eq n p.0) (place_by_class n place ps)
  where
    here : (b : Bool) → has_number place (having n ps) ≡ pair_stands (n, place) ps → has_number place (cond b (p.1 ∷ []) [] ++ having n ps) ≡ ((b && nat_eq place p.1) || pair_stands (n, place) ps)
    here true h = ap (λ b. nat_eq place p.1 || b) h
    here false h = h
