use Rattle.std.proofs.Common.{◌≡◌, ◌+◌, ◌*◌, drop}
use Rattle.es_base.specs.Preorder.{nodes, nodes_of, nodes_of_part}
use Rattle.es_base.specs.Tree.{trees, nullable, nullable_trees}
use Rattle.es_node.specs.View.{part_of, parts_of}
use Rattle.es_steps.specs.Printable.{stray_target_of}
use Rattle.es_owed_printable.specs.Targets.{stray_target_from, target_within}
use Rattle.es_owed_printable.proofs.stray_targets.+target.Given as goal

abbrev pub decreases-has_stray_target : goal.decreases-has_stray_target
decreases-has_stray_target l = 5 * nodes l.node.now

abbrev pub decreases-stray_target_in : goal.decreases-stray_target_in
decreases-stray_target_in l = 5 * nodes_of (parts_of l.parts.now) + 4

abbrev pub decreases-stray_target_at : goal.decreases-stray_target_at
decreases-stray_target_at l = 5 * nodes_of_part (part_of l.part.now) + 3

abbrev pub decreases-stray_target_of_list : goal.decreases-stray_target_of_list
decreases-stray_target_of_list l = 5 * nodes_of (trees l.nodes.now) + 2

abbrev pub decreases-stray_target_of_list_with_holes : goal.decreases-stray_target_of_list_with_holes
decreases-stray_target_of_list_with_holes l = 5 * nodes_of (nullable_trees l.nodes.now) + 2

abbrev pub decreases-stray_target_of_hole : goal.decreases-stray_target_of_hole
decreases-stray_target_of_hole l = 5 * nodes_of_part (nullable l.node.now) + 1

abbrev pub invariant-stray_target_in-loop-i : goal.invariant-stray_target_in-loop-i
invariant-stray_target_in-loop-i l = stray_target_from (target_within l.inside l.kind) l.i (parts_of (drop l.i l.parts)) ≡ stray_target_from (target_within l.inside l.kind) 0 (parts_of l.parts)

abbrev pub invariant-stray_target_of_list-loop-node : goal.invariant-stray_target_of_list-loop-node
invariant-stray_target_of_list-loop-node l = stray_target_of l.inside (trees (drop l.node-index l.nodes)) ≡ stray_target_of l.inside (trees l.nodes)

abbrev pub invariant-stray_target_of_list_with_holes-loop-node : goal.invariant-stray_target_of_list_with_holes-loop-node
invariant-stray_target_of_list_with_holes-loop-node l = stray_target_of l.inside (nullable_trees (drop l.node-index l.nodes)) ≡ stray_target_of l.inside (nullable_trees l.nodes)
