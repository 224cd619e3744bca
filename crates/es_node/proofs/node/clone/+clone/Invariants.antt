use Rattle.std.proofs.Common.{◌≡◌, ◌+◌, ◌*◌, take}
use Rattle.es_base.specs.Preorder.{nodes, nodes_of, nodes_of_part}
use Rattle.es_base.specs.Tree.{trees, nullable, nullable_trees}
use Rattle.es_node.specs.View.{part_of, parts_of}
use Rattle.es_node.proofs.node.clone.+clone.Given as goal

abbrev pub decreases-clone_node : goal.decreases-clone_node
decreases-clone_node l = 5 * nodes l.node.now

abbrev pub decreases-clone_parts : goal.decreases-clone_parts
decreases-clone_parts l = 5 * nodes_of (parts_of l.parts.now) + 4

abbrev pub decreases-clone_part : goal.decreases-clone_part
decreases-clone_part l = 5 * nodes_of_part (part_of l.part.now) + 3

abbrev pub decreases-clone_list : goal.decreases-clone_list
decreases-clone_list l = 5 * nodes_of (trees l.nodes.now) + 2

abbrev pub decreases-clone_list_with_holes : goal.decreases-clone_list_with_holes
decreases-clone_list_with_holes l = 5 * nodes_of (nullable_trees l.nodes.now) + 2

abbrev pub decreases-clone_hole : goal.decreases-clone_hole
decreases-clone_hole l = 5 * nodes_of_part (nullable l.node.now) + 1

abbrev pub invariant-clone_parts-loop-part : goal.invariant-clone_parts-loop-part
invariant-clone_parts-loop-part l = l.clones ≡ take l.part-index l.parts

abbrev pub invariant-clone_list-loop-node : goal.invariant-clone_list-loop-node
invariant-clone_list-loop-node l = l.clones ≡ take l.node-index l.nodes

abbrev pub invariant-clone_list_with_holes-loop-node : goal.invariant-clone_list_with_holes-loop-node
invariant-clone_list_with_holes-loop-node l = l.clones ≡ take l.node-index l.nodes
