-- The first of faults, met one at a time, is the first of all.
use Rattle.std.proofs.Common.{◌≡◌, refl, List, [], ◌∷◌, ◌++◌, Option}
use Rattle.es_validity.specs.Faults.{FaultAt, earlier, first_with}

pub first_with_append : (f : Option FaultAt) (gs hs : List FaultAt) → first_with f (gs ++ hs) ≡ first_with (first_with f gs) hs
first_with_append f [] hs = refl
first_with_append f (g ∷ gs) hs = first_with_append (earlier f g) gs hs
