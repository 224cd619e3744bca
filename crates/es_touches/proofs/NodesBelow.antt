-- The nodes below a node.
use Rattle.std.proofs.Common.{◌≡◌, refl, ◌∷◌}
use Rattle.es_base.specs.Preorder.{preorder, preorder_of}
use Rattle.es_base.specs.Tree.{Tree, Node}
use Rattle.es_node.specs.View.{parts_in}

pub below_node : (t : Tree) → preorder t ≡ t ∷ preorder_of (parts_in t)
below_node (Node kind m span semantic_id ps) = refl
