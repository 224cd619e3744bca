-- The places of nodes in preorder, by their numbers.
use Rattle.std.specs.Prelude.{ℕ, suc, List, [], ◌∷◌, Bool, true, false, nat_le, min, Option, Some, None}
use Rattle.es_base.specs.Preorder.{number_of}
use Rattle.es_base.specs.Tree.{Tree}
use Rattle.es_grouped.specs.Groups.{having}

-- the numbers of nodes, each with its place, the first of which is this
abbrev pub places_from : ℕ → List Tree → List (ℕ × ℕ)
places_from i [] = []
places_from i (t ∷ ts) = (number_of t, i) ∷ places_from (suc i) ts

abbrev pub first_place : List ℕ → Option ℕ
first_place [] = None
first_place (i ∷ is) = Some i

-- the place of the first node of a number
abbrev pub place : ℕ → List Tree → Option ℕ
place n ts = first_place (having n (places_from 0 ts))

abbrev pub is_before : Option ℕ → Option ℕ → Bool
is_before None j = false
is_before (Some i) None = true
is_before (Some i) (Some j) = nat_le i j

abbrev pub earlier : Option ℕ → Option ℕ → Option ℕ
earlier None j = j
earlier (Some i) None = Some i
earlier (Some i) (Some j) = Some (min i j)

-- the first of a place and those of these numbers
abbrev pub first_of_all : Option ℕ → List ℕ → List Tree → Option ℕ
first_of_all i [] ts = i
first_of_all i (n ∷ ns) ts = first_of_all (earlier i (place n ts)) ns ts
