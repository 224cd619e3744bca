use Rattle.std.proofs.Common.{◌≡◌, ◌+◌, ◌*◌, ◌++◌, drop}
use Rattle.es_base.specs.Preorder.{nodes, nodes_of, nodes_of_part}
use Rattle.es_base.specs.Tree.{trees, nullable, nullable_trees}
use Rattle.es_node.specs.View.{part_of, parts_of}
use Rattle.es_steps.specs.KeptNodes.{homes_of}
use Rattle.es_owed.specs.Homes.{home_here, home_within, homed_all, homes_from}
use Rattle.es_owed.proofs.homes.+homes.Given as goal

abbrev pub decreases-add_homes : goal.decreases-add_homes
decreases-add_homes l = 5 * nodes l.node.now

abbrev pub decreases-add_homes_in : goal.decreases-add_homes_in
decreases-add_homes_in l = 5 * nodes_of (parts_of l.parts.now) + 4

abbrev pub decreases-add_homes_at : goal.decreases-add_homes_at
decreases-add_homes_at l = 5 * nodes_of_part (part_of l.part.now) + 3

abbrev pub decreases-add_homes_of_list : goal.decreases-add_homes_of_list
decreases-add_homes_of_list l = 5 * nodes_of (trees l.nodes.now) + 2

abbrev pub decreases-add_homes_of_list_with_holes : goal.decreases-add_homes_of_list_with_holes
decreases-add_homes_of_list_with_holes l = 5 * nodes_of (nullable_trees l.nodes.now) + 2

abbrev pub decreases-add_homes_of_hole : goal.decreases-add_homes_of_hole
decreases-add_homes_of_hole l = 5 * nodes_of_part (nullable l.node.now) + 1

abbrev pub invariant-add_homes_in-loop-i : goal.invariant-add_homes_in-loop-i
invariant-add_homes_in-loop-i l =
    let within = home_within (home_here l.around) l.node in
    homed_all l.found.items ++ homes_from within l.i (parts_of (drop l.i l.parts)) ≡ homed_all l.fn.found.items ++ homes_from within 0 (parts_of l.parts)

abbrev pub invariant-add_homes_of_list-loop-node : goal.invariant-add_homes_of_list-loop-node
invariant-add_homes_of_list-loop-node l = homed_all l.found.items ++ homes_of (home_here l.around) (trees (drop l.node-index l.nodes)) ≡ homed_all l.fn.found.items ++ homes_of (home_here l.around) (trees l.nodes)

abbrev pub invariant-add_homes_of_list_with_holes-loop-node : goal.invariant-add_homes_of_list_with_holes-loop-node
invariant-add_homes_of_list_with_holes-loop-node l = homed_all l.found.items ++ homes_of (home_here l.around) (nullable_trees (drop l.node-index l.nodes)) ≡ homed_all l.fn.found.items ++ homes_of (home_here l.around) (nullable_trees l.nodes)
