use Rattle.std.proofs.Common.{◌≡◌, ◌+◌, ◌*◌, drop}
use Rattle.es_base.specs.Preorder.{nodes, nodes_of, nodes_of_part}
use Rattle.es_base.specs.Tree.{trees, nullable, nullable_trees}
use Rattle.es_node.specs.View.{part_of, parts_of}
use Rattle.es_node.proofs.node.count.+count.Given as goal

abbrev pub decreases-room_after_node : goal.decreases-room_after_node
decreases-room_after_node l = 5 * nodes l.node.now

abbrev pub decreases-room_after_parts : goal.decreases-room_after_parts
decreases-room_after_parts l = 5 * nodes_of (parts_of l.parts.now) + 4

abbrev pub decreases-room_after_part : goal.decreases-room_after_part
decreases-room_after_part l = 5 * nodes_of_part (part_of l.part.now) + 3

abbrev pub decreases-room_after_list : goal.decreases-room_after_list
decreases-room_after_list l = 5 * nodes_of (trees l.nodes.now) + 2

abbrev pub decreases-room_after_list_with_holes : goal.decreases-room_after_list_with_holes
decreases-room_after_list_with_holes l = 5 * nodes_of (nullable_trees l.nodes.now) + 2

abbrev pub decreases-room_after_hole : goal.decreases-room_after_hole
decreases-room_after_hole l = 5 * nodes_of_part (nullable l.node.now) + 1

abbrev pub invariant-room_after_parts-loop-part : goal.invariant-room_after_parts-loop-part
invariant-room_after_parts-loop-part l = l.room + nodes_of (parts_of l.parts) ≡ l.initial.room + nodes_of (parts_of (drop l.part-index l.parts))

abbrev pub invariant-room_after_list-loop-node : goal.invariant-room_after_list-loop-node
invariant-room_after_list-loop-node l = l.room + nodes_of (trees l.nodes) ≡ l.initial.room + nodes_of (trees (drop l.node-index l.nodes))

abbrev pub invariant-room_after_list_with_holes-loop-node : goal.invariant-room_after_list_with_holes-loop-node
invariant-room_after_list_with_holes-loop-node l = l.room + nodes_of (nullable_trees l.nodes) ≡ l.initial.room + nodes_of (nullable_trees (drop l.node-index l.nodes))
