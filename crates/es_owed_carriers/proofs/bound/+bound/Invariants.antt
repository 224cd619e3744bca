use Rattle.std.proofs.Common.{◌≡◌, ◌+◌, ◌*◌, ◌++◌, drop}
use Rattle.es_base.specs.Preorder.{nodes, nodes_of, nodes_of_part}
use Rattle.es_base.specs.Tree.{trees, nullable, nullable_trees}
use Rattle.es_lowered.specs.Bound.{bound_of}
use Rattle.es_node.specs.View.{part_of, parts_of}
use Rattle.es_owed_carriers.specs.Pairs.{pairs_of}
use Rattle.es_owed_carriers.specs.Places.{bound_from, place_of, place_within}
use Rattle.es_owed_carriers.proofs.bound.+bound.Given as goal

abbrev pub decreases-add_bound : goal.decreases-add_bound
decreases-add_bound l = 5 * nodes l.node.now

abbrev pub decreases-add_bound_in : goal.decreases-add_bound_in
decreases-add_bound_in l = 5 * nodes_of (parts_of l.parts.now) + 4

abbrev pub decreases-add_bound_at : goal.decreases-add_bound_at
decreases-add_bound_at l = 5 * nodes_of_part (part_of l.part.now) + 3

abbrev pub decreases-add_bound_of_list : goal.decreases-add_bound_of_list
decreases-add_bound_of_list l = 5 * nodes_of (trees l.nodes.now) + 2

abbrev pub decreases-add_bound_of_list_with_holes : goal.decreases-add_bound_of_list_with_holes
decreases-add_bound_of_list_with_holes l = 5 * nodes_of (nullable_trees l.nodes.now) + 2

abbrev pub decreases-add_bound_of_hole : goal.decreases-add_bound_of_hole
decreases-add_bound_of_hole l = 5 * nodes_of_part (nullable l.node.now) + 1

abbrev pub invariant-add_bound_in-loop-i : goal.invariant-add_bound_in-loop-i
invariant-add_bound_in-loop-i l =
    let within = place_within (place_of l.place) l.node in
    pairs_of l.found.items ++ bound_from l.first within l.i (parts_of (drop l.i l.parts)) ≡ pairs_of l.fn.found.items ++ bound_from l.first within 0 (parts_of l.parts)

abbrev pub invariant-add_bound_of_list-loop-node : goal.invariant-add_bound_of_list-loop-node
invariant-add_bound_of_list-loop-node l = pairs_of l.found.items ++ bound_of l.first (place_of l.place) (trees (drop l.node-index l.nodes)) ≡ pairs_of l.fn.found.items ++ bound_of l.first (place_of l.place) (trees l.nodes)

abbrev pub invariant-add_bound_of_list_with_holes-loop-node : goal.invariant-add_bound_of_list_with_holes-loop-node
invariant-add_bound_of_list_with_holes-loop-node l = pairs_of l.found.items ++ bound_of l.first (place_of l.place) (nullable_trees (drop l.node-index l.nodes)) ≡ pairs_of l.fn.found.items ++ bound_of l.first (place_of l.place) (nullable_trees l.nodes)
