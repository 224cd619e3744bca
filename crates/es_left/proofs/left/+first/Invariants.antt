use Rattle.std.proofs.Common.{◌≡◌, ◌+◌, ◌*◌, drop}
use Rattle.es_base.specs.Preorder.{nodes, nodes_of, nodes_of_part}
use Rattle.es_base.specs.Tree.{trees, nullable, nullable_trees}
use Rattle.es_node.specs.View.{part_of, parts_of}
use Rattle.es_left.specs.Left.{first_in_parts}
use Rattle.es_left.proofs.left.+first.Given as goal

abbrev pub decreases-first_in : goal.decreases-first_in
decreases-first_in l = 5 * nodes l.node.now

abbrev pub decreases-first_in_parts : goal.decreases-first_in_parts
decreases-first_in_parts l = 5 * nodes_of (parts_of l.parts.now) + 4

abbrev pub decreases-first_in_part : goal.decreases-first_in_part
decreases-first_in_part l = 5 * nodes_of_part (part_of l.part.now) + 3

abbrev pub decreases-first_in_list : goal.decreases-first_in_list
decreases-first_in_list l = 5 * nodes_of (trees l.nodes.now) + 2

abbrev pub decreases-first_in_list_with_holes : goal.decreases-first_in_list_with_holes
decreases-first_in_list_with_holes l = 5 * nodes_of (nullable_trees l.nodes.now) + 2

abbrev pub decreases-first_in_item : goal.decreases-first_in_item
decreases-first_in_item l = 5 * nodes_of_part (nullable l.node.now) + 1

abbrev pub invariant-first_in_parts-loop-part : goal.invariant-first_in_parts-loop-part
invariant-first_in_parts-loop-part l = first_in_parts l.options (parts_of (drop l.part-index l.parts)) ≡ first_in_parts l.options (parts_of l.parts)

abbrev pub invariant-first_in_list-loop-node : goal.invariant-first_in_list-loop-node
invariant-first_in_list-loop-node l = first_in_parts l.options (trees (drop l.node-index l.nodes)) ≡ first_in_parts l.options (trees l.nodes)

abbrev pub invariant-first_in_list_with_holes-loop-node : goal.invariant-first_in_list_with_holes-loop-node
invariant-first_in_list_with_holes-loop-node l = first_in_parts l.options (nullable_trees (drop l.node-index l.nodes)) ≡ first_in_parts l.options (nullable_trees l.nodes)
