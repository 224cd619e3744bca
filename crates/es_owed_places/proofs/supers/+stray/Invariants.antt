use Rattle.std.proofs.Common.{◌≡◌, ◌+◌, ◌*◌, drop}
use Rattle.es_base.specs.Preorder.{nodes, nodes_of, nodes_of_part}
use Rattle.es_base.specs.Tree.{trees, nullable, nullable_trees}
use Rattle.es_node.specs.View.{part_of, parts_of}
use Rattle.es_lowered.specs.Supers.{stray_super_of}
use Rattle.es_owed_places.specs.SuperPlaces.{place_of, place_within, stray_super_from}
use Rattle.es_owed_places.proofs.supers.+stray.Given as goal

abbrev pub decreases-has_stray_super : goal.decreases-has_stray_super
decreases-has_stray_super l = 5 * nodes l.node.now

abbrev pub decreases-stray_super_in : goal.decreases-stray_super_in
decreases-stray_super_in l = 5 * nodes_of (parts_of l.parts.now) + 4

abbrev pub decreases-stray_super_at : goal.decreases-stray_super_at
decreases-stray_super_at l = 5 * nodes_of_part (part_of l.part.now) + 3

abbrev pub decreases-stray_super_of_list : goal.decreases-stray_super_of_list
decreases-stray_super_of_list l = 5 * nodes_of (trees l.nodes.now) + 2

abbrev pub decreases-stray_super_of_list_with_holes : goal.decreases-stray_super_of_list_with_holes
decreases-stray_super_of_list_with_holes l = 5 * nodes_of (nullable_trees l.nodes.now) + 2

abbrev pub decreases-stray_super_of_hole : goal.decreases-stray_super_of_hole
decreases-stray_super_of_hole l = 5 * nodes_of_part (nullable l.node.now) + 1

abbrev pub invariant-stray_super_in-loop-i : goal.invariant-stray_super_in-loop-i
invariant-stray_super_in-loop-i l = stray_super_from (place_within (place_of l.place) l.node) l.i (parts_of (drop l.i l.parts)) ≡ stray_super_from (place_within (place_of l.place) l.node) 0 (parts_of l.parts)

abbrev pub invariant-stray_super_of_list-loop-node : goal.invariant-stray_super_of_list-loop-node
invariant-stray_super_of_list-loop-node l = stray_super_of (place_of l.place) (trees (drop l.node-index l.nodes)) ≡ stray_super_of (place_of l.place) (trees l.nodes)

abbrev pub invariant-stray_super_of_list_with_holes-loop-node : goal.invariant-stray_super_of_list_with_holes-loop-node
invariant-stray_super_of_list_with_holes-loop-node l = stray_super_of (place_of l.place) (nullable_trees (drop l.node-index l.nodes)) ≡ stray_super_of (place_of l.place) (nullable_trees l.nodes)
