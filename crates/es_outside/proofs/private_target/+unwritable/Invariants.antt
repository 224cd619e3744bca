use Rattle.std.proofs.Common.{◌≡◌, ◌+◌, ◌*◌, drop}
use Rattle.es_base.specs.Preorder.{nodes, nodes_of, nodes_of_part}
use Rattle.es_base.specs.Tree.{trees, nullable, nullable_trees}
use Rattle.es_node.specs.View.{part_of, parts_in, parts_of}
use Rattle.es_steps.specs.Shapes.{unwritable_items}
use Rattle.es_outside.specs.PrivateTargets.{seen_by, seen_in, unwritable_from}
use Rattle.es_outside.proofs.private_target.+unwritable.Given as goal

abbrev pub decreases-has_unwritable : goal.decreases-has_unwritable
decreases-has_unwritable l = 5 * nodes l.node.now

abbrev pub decreases-unwritable_in : goal.decreases-unwritable_in
decreases-unwritable_in l = 5 * nodes_of (parts_in l.node.now) + 4

abbrev pub decreases-unwritable_in_part : goal.decreases-unwritable_in_part
decreases-unwritable_in_part l = 5 * nodes_of_part (part_of l.part.now) + 3

abbrev pub decreases-unwritable_in_list : goal.decreases-unwritable_in_list
decreases-unwritable_in_list l = 5 * nodes_of (trees l.nodes.now) + 2

abbrev pub decreases-unwritable_in_list_with_holes : goal.decreases-unwritable_in_list_with_holes
decreases-unwritable_in_list_with_holes l = 5 * nodes_of (nullable_trees l.nodes.now) + 2

abbrev pub decreases-unwritable_in_hole : goal.decreases-unwritable_in_hole
decreases-unwritable_in_hole l = 5 * nodes_of_part (nullable l.node.now) + 1

abbrev pub invariant-unwritable_in-loop-i : goal.invariant-unwritable_in-loop-i
invariant-unwritable_in-loop-i l =
    let seen = seen_in (seen_by l.inner) (seen_by l.around) in
    unwritable_from seen l.i (parts_of (drop l.i l.parts)) ≡ unwritable_from seen 0 (parts_in l.node)

abbrev pub invariant-unwritable_in_list-loop-node : goal.invariant-unwritable_in_list-loop-node
invariant-unwritable_in_list-loop-node l = unwritable_items (seen_by l.around) (trees (drop l.node-index l.nodes)) ≡ unwritable_items (seen_by l.around) (trees l.nodes)

abbrev pub invariant-unwritable_in_list_with_holes-loop-node : goal.invariant-unwritable_in_list_with_holes-loop-node
invariant-unwritable_in_list_with_holes-loop-node l = unwritable_items (seen_by l.around) (nullable_trees (drop l.node-index l.nodes)) ≡ unwritable_items (seen_by l.around) (nullable_trees l.nodes)
