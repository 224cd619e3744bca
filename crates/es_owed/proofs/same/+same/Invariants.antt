use Rattle.std.proofs.Common.{◌≡◌, ◌+◌, ◌*◌, drop, length}
use Rattle.es_base.specs.Preorder.{nodes, nodes_of, nodes_of_part}
use Rattle.es_base.specs.Tree.{trees, nullable, nullable_trees}
use Rattle.es_node.specs.View.{part_of, parts_of}
use Rattle.es_steps.specs.SameTrees.{same_parts}
use Rattle.es_owed.proofs.same.+same.Given as goal

abbrev pub decreases-same_node : goal.decreases-same_node
decreases-same_node l = 7 * nodes l.node.now

abbrev pub decreases-same_members : goal.decreases-same_members
decreases-same_members l = 7 * nodes_of (parts_of l.parts.now) + 6

abbrev pub decreases-same_part : goal.decreases-same_part
decreases-same_part l = 7 * nodes_of_part (part_of l.part.now) + 5

abbrev pub decreases-same_child : goal.decreases-same_child
decreases-same_child l = 7 * nodes l.node.now + 3

abbrev pub decreases-same_list : goal.decreases-same_list
decreases-same_list l = 7 * nodes_of (trees l.nodes.now) + 3

abbrev pub decreases-same_list_with_holes : goal.decreases-same_list_with_holes
decreases-same_list_with_holes l = 7 * nodes_of (nullable_trees l.nodes.now) + 4

abbrev pub decreases-same_nodes : goal.decreases-same_nodes
decreases-same_nodes l = 7 * nodes_of (trees l.nodes.now) + 2

abbrev pub decreases-same_as_holes : goal.decreases-same_as_holes
decreases-same_as_holes l = 7 * nodes_of (trees l.nodes.now) + 2

abbrev pub decreases-holes_same : goal.decreases-holes_same
decreases-holes_same l = 7 * nodes_of (nullable_trees l.nodes.now) + 2

abbrev pub decreases-same_holes : goal.decreases-same_holes
decreases-same_holes l = 7 * nodes_of (nullable_trees l.nodes.now) + 3

abbrev pub decreases-is_hole_filled : goal.decreases-is_hole_filled
decreases-is_hole_filled l = 7 * nodes l.node.now + 1

abbrev pub decreases-fills_hole : goal.decreases-fills_hole
decreases-fills_hole l = 7 * nodes_of_part (nullable l.node.now) + 1

abbrev pub decreases-same_hole : goal.decreases-same_hole
decreases-same_hole l = 7 * nodes_of_part (nullable l.node.now) + 2

abbrev pub invariant-same_members-loop-i : goal.invariant-same_members-loop-i
invariant-same_members-loop-i l = (length l.others ≡ length l.parts) × (same_parts (parts_of (drop l.i l.parts)) (parts_of (drop l.i l.others)) ≡ same_parts (parts_of l.parts) (parts_of l.others))

abbrev pub invariant-same_nodes-loop-i : goal.invariant-same_nodes-loop-i
invariant-same_nodes-loop-i l = (length l.others ≡ length l.nodes) × (same_parts (trees (drop l.i l.nodes)) (trees (drop l.i l.others)) ≡ same_parts (trees l.nodes) (trees l.others))

abbrev pub invariant-same_as_holes-loop-i : goal.invariant-same_as_holes-loop-i
invariant-same_as_holes-loop-i l = (length l.others ≡ length l.nodes) × (same_parts (trees (drop l.i l.nodes)) (nullable_trees (drop l.i l.others)) ≡ same_parts (trees l.nodes) (nullable_trees l.others))

abbrev pub invariant-holes_same-loop-i : goal.invariant-holes_same-loop-i
invariant-holes_same-loop-i l = (length l.others ≡ length l.nodes) × (same_parts (nullable_trees (drop l.i l.nodes)) (trees (drop l.i l.others)) ≡ same_parts (nullable_trees l.nodes) (trees l.others))

abbrev pub invariant-same_holes-loop-i : goal.invariant-same_holes-loop-i
invariant-same_holes-loop-i l = (length l.others ≡ length l.nodes) × (same_parts (nullable_trees (drop l.i l.nodes)) (nullable_trees (drop l.i l.others)) ≡ same_parts (nullable_trees l.nodes) (nullable_trees l.others))
