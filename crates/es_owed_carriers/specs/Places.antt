-- What is around a part in code, as definitions see it.
use Rattle.std.specs.Prelude.{ℕ, ◌+◌, List, [], ◌++◌}
use Rattle.es_base.specs.Tree.{Tree, Parts, Node, end, more}
use Rattle.es_lowered.specs.Bound.{BoundPlace, bound_at, bound_block, bound_node, place_inside}
use Rattle.es_owed_carriers.specs.declared.bound.Place.{Place}

abbrev pub place_of : Place → BoundPlace
place_of x = record { kind = x.kind; number = x.number; of_function = x.function; in_parameters = x.in_parameters }

-- what is around the i-th part of a node
abbrev pub place_within : BoundPlace → Tree → ℕ → BoundPlace
place_within x (Node kind m span semantic_id ps) i = place_inside x kind m i

-- what a node itself stays in
abbrev pub own_bounds : ℕ → BoundPlace → Tree → List (ℕ × ℕ)
own_bounds first x (Node kind m span semantic_id ps) = bound_node first x kind m ps ++ bound_block first x kind m

-- those of the parts from the i-th on
abbrev pub bound_from : ℕ → (ℕ → BoundPlace) → ℕ → Parts → List (ℕ × ℕ)
bound_from first x i end = []
bound_from first x i (more p ps) = bound_at first (x i) p ++ bound_from first x (i + 1) ps
