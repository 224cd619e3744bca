-- Homes in code, as definitions see them.
use Rattle.std.specs.Prelude.{ℕ, ◌+◌, List, [], ◌∷◌, ◌++◌, map, Bool, true, cond, not, ◌&&◌, nat_eq}
use Rattle.std.specs.Str.{chars}
use Rattle.es_base.specs.Tree.{Tree, Parts, Node, end, more}
use Rattle.es_steps.specs.KeptNodes as spec
use Rattle.es_steps.specs.KeptNodes.{HomeHere, home_in, homes_at, is_static_block}
use Rattle.es_owed.specs.declared.homes.Around.{Around}
use Rattle.es_owed.specs.declared.homes.Homed.{Homed}

abbrev pub home_here : Around → HomeHere
home_here x = record { of_function = x.function; is_own_name = x.is_own_name; in_constructor = x.in_constructor }

abbrev pub homed_here : Homed → spec.Homed
homed_here x = record { number = x.number; home = x.home; spelling = chars x.spelling.now; is_own_name = x.is_own_name; in_constructor = x.in_constructor }

abbrev pub homed_all : List Homed → List spec.Homed
homed_all xs = map homed_here xs

-- what is around the i-th part of a node
abbrev pub home_within : HomeHere → Tree → ℕ → HomeHere
home_within x (Node kind m span semantic_id ps) i = home_in x kind m ps i

-- those of the parts from the i-th on
abbrev pub homes_from : (ℕ → HomeHere) → ℕ → Parts → List spec.Homed
homes_from x i end = []
homes_from x i (more p ps) = homes_at (x i) p ++ homes_from x (i + 1) ps

abbrev pub block_number : Tree → List ℕ
block_number (Node kind m span semantic_id ps) = cond (is_static_block kind) (m ∷ []) []

-- those of a number
abbrev pub homed_numbered : ℕ → List spec.Homed → List spec.Homed
homed_numbered m [] = []
homed_numbered m (y ∷ ys) = cond (nat_eq m y.number) (y ∷ []) [] ++ homed_numbered m ys

-- whether there is none of a number
abbrev pub is_nowhere : ℕ → List spec.Homed → Bool
is_nowhere n [] = true
is_nowhere n (y ∷ ys) = not (nat_eq n y.number) && is_nowhere n ys
