-- What is around the parts of a node.
use Rattle.std.proofs.Common.{◌≡◌, refl, ℕ}
use Rattle.es_base.specs.Tree.{Tree, Node}
use Rattle.es_lowered.specs.DeadZones.{Spot, chain_in, held_in}
use Rattle.es_node.specs.View.{kind_of, number_in, parts_in}
use Rattle.es_steps.specs.Printable.{has_optional}
use Rattle.es_owed_dead_zones.specs.Walk.{spot_at}
use Rattle.std.proofs.Common.{[], ◌∷◌}

pub spot_node : (x : Spot) (t : Tree) (i : ℕ) → spot_at x t i ≡ record { around = number_in t ∷ []; held = held_in x (has_optional t) (kind_of t) (number_in t) (parts_in t) i; chain = chain_in x (kind_of t) (number_in t) i }
spot_node x (Node kind m span semantic_id ps) i = refl
