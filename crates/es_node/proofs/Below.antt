-- No part has more nodes than all together: what a walk down a tree needs to end.
use Rattle.std.proofs.Common.{◌≡◌, List, [], ◌∷◌, ℕ, zero, suc, ◌<◌, ◌≤◌, ◌+◌, arith, length, Option, get_or}
use Rattle.es_base.specs.Preorder.{nodes, nodes_of, nodes_of_part}
use Rattle.es_base.specs.Tree.{Tree, Node, nullable, trees, nullable_trees}
use Rattle.es_node.specs.View.{part_of, parts_of, parts_in}
use Rattle.es_node.specs.declared.node.Part as code

pub nodes_in : (t : Tree) → nodes t ≡ nodes_of (parts_in t) + 1
nodes_in (Node kind id span semantic_id ps) = search arith

pub part_below : (ps : List code.Part) (i : ℕ) (d : code.Part) → i < length ps → nodes_of_part (part_of (get_or ps i d)) ≤ nodes_of (parts_of ps)
part_below [] i d h = absurd (omega arith)
part_below (p ∷ ps) zero d h = omega arith
part_below (p ∷ ps) (suc i) d h = let e : i < length ps = omega arith in omega (arith, part_below ps i d e)

pub tree_below : (ts : List Tree) (i : ℕ) (d : Tree) → i < length ts → nodes (get_or ts i d) ≤ nodes_of (trees ts)
tree_below [] i d h = absurd (omega arith)
tree_below (t ∷ ts) zero d h = omega arith
tree_below (t ∷ ts) (suc i) d h = let e : i < length ts = omega arith in omega (arith, tree_below ts i d e)

pub hole_below : (ts : List (Option Tree)) (i : ℕ) (d : Option Tree) → i < length ts → nodes_of_part (nullable (get_or ts i d)) ≤ nodes_of (nullable_trees ts)
hole_below [] i d h = absurd (omega arith)
hole_below (t ∷ ts) zero d h = omega arith
hole_below (t ∷ ts) (suc i) d h = let e : i < length ts = omega arith in omega (arith, hole_below ts i d e)
