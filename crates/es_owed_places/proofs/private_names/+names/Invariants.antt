use Rattle.std.proofs.Common.{◌≡◌, ◌+◌, ◌*◌, drop}
use Rattle.es_base.specs.Preorder.{nodes, nodes_of, nodes_of_part}
use Rattle.es_base.specs.Tree.{trees, nullable, nullable_trees}
use Rattle.es_lowered.specs.StrayNames.{stray_name_of}
use Rattle.es_node.specs.View.{part_of, parts_of}
use Rattle.es_seen_names.specs.Frames.{privates_in}
use Rattle.es_owed_places.specs.StrayNames.{seen_within, stray_name_from}
use Rattle.es_owed_places.proofs.private_names.+names.Given as goal

abbrev pub decreases-has_stray_name : goal.decreases-has_stray_name
decreases-has_stray_name l = 6 * nodes l.node.now

abbrev pub decreases-stray_name_in : goal.decreases-stray_name_in
decreases-stray_name_in l = 6 * nodes_of (parts_of l.parts.now) + 5

abbrev pub decreases-stray_name_in_part : goal.decreases-stray_name_in_part
decreases-stray_name_in_part l = 6 * nodes_of_part (part_of l.part.now) + 4

abbrev pub decreases-stray_name_at : goal.decreases-stray_name_at
decreases-stray_name_at l = 6 * nodes_of_part (part_of l.part.now) + 3

abbrev pub decreases-stray_name_of_list : goal.decreases-stray_name_of_list
decreases-stray_name_of_list l = 6 * nodes_of (trees l.nodes.now) + 2

abbrev pub decreases-stray_name_of_list_with_holes : goal.decreases-stray_name_of_list_with_holes
decreases-stray_name_of_list_with_holes l = 6 * nodes_of (nullable_trees l.nodes.now) + 2

abbrev pub decreases-stray_name_of_hole : goal.decreases-stray_name_of_hole
decreases-stray_name_of_hole l = 6 * nodes_of_part (nullable l.node.now) + 1

abbrev pub invariant-stray_name_in-loop-i : goal.invariant-stray_name_in-loop-i
invariant-stray_name_in-loop-i l =
    let within = seen_within (privates_in l.privates) l.node in
    stray_name_from within l.i (parts_of (drop l.i l.parts)) ≡ stray_name_from within 0 (parts_of l.parts)

abbrev pub invariant-stray_name_of_list-loop-node : goal.invariant-stray_name_of_list-loop-node
invariant-stray_name_of_list-loop-node l =
    let seen = privates_in l.privates in
    stray_name_of seen (trees (drop l.node-index l.nodes)) ≡ stray_name_of seen (trees l.nodes)

abbrev pub invariant-stray_name_of_list_with_holes-loop-node : goal.invariant-stray_name_of_list_with_holes-loop-node
invariant-stray_name_of_list_with_holes-loop-node l =
    let seen = privates_in l.privates in
    stray_name_of seen (nullable_trees (drop l.node-index l.nodes)) ≡ stray_name_of seen (nullable_trees l.nodes)
