use Rattle.std.proofs.Common.{◌≡◌, ◌+◌, ◌*◌, drop}
use Rattle.es_base.specs.Preorder.{nodes, nodes_of, nodes_of_part}
use Rattle.es_base.specs.Tree.{trees, nullable, nullable_trees}
use Rattle.es_node.specs.View.{part_of, parts_of}
use Rattle.es_steps.specs.Printable.{stray_in}
use Rattle.es_validity.specs.Labels.{jumps_of}
use Rattle.es_owed_printable.proofs.stray_jumps.+stray.Given as goal

abbrev pub decreases-has_stray : goal.decreases-has_stray
decreases-has_stray l = 5 * nodes l.node.now

abbrev pub decreases-stray_in : goal.decreases-stray_in
decreases-stray_in l = 5 * nodes_of (parts_of l.parts.now) + 4

abbrev pub decreases-stray_at : goal.decreases-stray_at
decreases-stray_at l = 5 * nodes_of_part (part_of l.part.now) + 3

abbrev pub decreases-stray_of_list : goal.decreases-stray_of_list
decreases-stray_of_list l = 5 * nodes_of (trees l.nodes.now) + 2

abbrev pub decreases-stray_of_list_with_holes : goal.decreases-stray_of_list_with_holes
decreases-stray_of_list_with_holes l = 5 * nodes_of (nullable_trees l.nodes.now) + 2

abbrev pub decreases-stray_of_hole : goal.decreases-stray_of_hole
decreases-stray_of_hole l = 5 * nodes_of_part (nullable l.node.now) + 1

abbrev pub invariant-stray_in-loop-part : goal.invariant-stray_in-loop-part
invariant-stray_in-loop-part l = stray_in (jumps_of l.jumps) (parts_of (drop l.part-index l.parts)) ≡ stray_in (jumps_of l.jumps) (parts_of l.parts)

abbrev pub invariant-stray_of_list-loop-node : goal.invariant-stray_of_list-loop-node
invariant-stray_of_list-loop-node l = stray_in (jumps_of l.jumps) (trees (drop l.node-index l.nodes)) ≡ stray_in (jumps_of l.jumps) (trees l.nodes)

abbrev pub invariant-stray_of_list_with_holes-loop-node : goal.invariant-stray_of_list_with_holes-loop-node
invariant-stray_of_list_with_holes-loop-node l = stray_in (jumps_of l.jumps) (nullable_trees (drop l.node-index l.nodes)) ≡ stray_in (jumps_of l.jumps) (nullable_trees l.nodes)
