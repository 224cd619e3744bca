use Rattle.std.proofs.Common.{◌≡◌, ◌+◌, ◌*◌, ◌++◌, drop}
use Rattle.es_base.specs.Preorder.{nodes, nodes_of, nodes_of_part, preorder_of}
use Rattle.es_base.specs.Tree.{trees, nullable, nullable_trees}
use Rattle.es_node.specs.View.{part_of, parts_of}
use Rattle.es_binding_faults.specs.Seen.{seen}
use Rattle.es_binding_faults.proofs.preorder.+preorder.Given as goal

abbrev pub decreases-add_node : goal.decreases-add_node
decreases-add_node l = 5 * nodes l.node.now

abbrev pub decreases-add_parts : goal.decreases-add_parts
decreases-add_parts l = 5 * nodes_of (parts_of l.parts.now) + 4

abbrev pub decreases-add_part : goal.decreases-add_part
decreases-add_part l = 5 * nodes_of_part (part_of l.part.now) + 3

abbrev pub decreases-add_list : goal.decreases-add_list
decreases-add_list l = 5 * nodes_of (trees l.items.now) + 2

abbrev pub decreases-add_list_with_holes : goal.decreases-add_list_with_holes
decreases-add_list_with_holes l = 5 * nodes_of (nullable_trees l.items.now) + 2

abbrev pub decreases-add_hole : goal.decreases-add_hole
decreases-add_hole l = 5 * nodes_of_part (nullable l.item.now) + 1

abbrev pub invariant-add_parts-loop-part : goal.invariant-add_parts-loop-part
invariant-add_parts-loop-part l = seen l.nodes.items ++ preorder_of (parts_of (drop l.part-index l.parts)) ≡ seen l.fn.nodes.items ++ preorder_of (parts_of l.parts)

abbrev pub invariant-add_list-loop-item : goal.invariant-add_list-loop-item
invariant-add_list-loop-item l = seen l.nodes.items ++ preorder_of (trees (drop l.item-index l.items)) ≡ seen l.fn.nodes.items ++ preorder_of (trees l.items)

abbrev pub invariant-add_list_with_holes-loop-item : goal.invariant-add_list_with_holes-loop-item
invariant-add_list_with_holes-loop-item l = seen l.nodes.items ++ preorder_of (nullable_trees (drop l.item-index l.items)) ≡ seen l.fn.nodes.items ++ preorder_of (nullable_trees l.items)
