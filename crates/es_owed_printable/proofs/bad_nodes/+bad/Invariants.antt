use Rattle.std.proofs.Common.{◌≡◌, ◌+◌, ◌*◌, drop}
use Rattle.es_base.specs.Preorder.{nodes, nodes_of, nodes_of_part}
use Rattle.es_base.specs.Tree.{trees, nullable, nullable_trees}
use Rattle.es_node.specs.View.{part_of, parts_of}
use Rattle.es_steps.specs.Printable.{bad_in}
use Rattle.es_owed_printable.proofs.bad_nodes.+bad.Given as goal

abbrev pub decreases-has_bad : goal.decreases-has_bad
decreases-has_bad l = 5 * nodes l.node.now

abbrev pub decreases-bad_in : goal.decreases-bad_in
decreases-bad_in l = 5 * nodes_of (parts_of l.parts.now) + 4

abbrev pub decreases-bad_at : goal.decreases-bad_at
decreases-bad_at l = 5 * nodes_of_part (part_of l.part.now) + 3

abbrev pub decreases-bad_of_list : goal.decreases-bad_of_list
decreases-bad_of_list l = 5 * nodes_of (trees l.nodes.now) + 2

abbrev pub decreases-bad_of_list_with_holes : goal.decreases-bad_of_list_with_holes
decreases-bad_of_list_with_holes l = 5 * nodes_of (nullable_trees l.nodes.now) + 2

abbrev pub decreases-bad_of_hole : goal.decreases-bad_of_hole
decreases-bad_of_hole l = 5 * nodes_of_part (nullable l.node.now) + 1

abbrev pub invariant-bad_in-loop-part : goal.invariant-bad_in-loop-part
invariant-bad_in-loop-part l = bad_in l.in_default l.in_module (parts_of (drop l.part-index l.parts)) ≡ bad_in l.in_default l.in_module (parts_of l.parts)

abbrev pub invariant-bad_of_list-loop-node : goal.invariant-bad_of_list-loop-node
invariant-bad_of_list-loop-node l = bad_in l.in_default l.in_module (trees (drop l.node-index l.nodes)) ≡ bad_in l.in_default l.in_module (trees l.nodes)

abbrev pub invariant-bad_of_list_with_holes-loop-node : goal.invariant-bad_of_list_with_holes-loop-node
invariant-bad_of_list_with_holes-loop-node l = bad_in l.in_default l.in_module (nullable_trees (drop l.node-index l.nodes)) ≡ bad_in l.in_default l.in_module (nullable_trees l.nodes)
