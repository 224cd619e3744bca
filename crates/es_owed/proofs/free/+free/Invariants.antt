use Rattle.std.proofs.Common.{◌≡◌, ◌+◌, ◌*◌, drop}
use Rattle.es_base.specs.Preorder.{nodes, nodes_of, nodes_of_part}
use Rattle.es_base.specs.Tree.{trees, nullable, nullable_trees}
use Rattle.es_node.specs.View.{part_of, parts_of}
use Rattle.es_binding_faults.specs.Seen.{seen}
use Rattle.es_owed.specs.FreeStatements.{free_stand_in}
use Rattle.es_owed.proofs.free.+free.Given as goal

abbrev pub decreases-free_stand : goal.decreases-free_stand
decreases-free_stand l = 5 * nodes l.node.now

abbrev pub decreases-free_stand_in : goal.decreases-free_stand_in
decreases-free_stand_in l = 5 * nodes_of (parts_of l.parts.now) + 4

abbrev pub decreases-free_stand_at : goal.decreases-free_stand_at
decreases-free_stand_at l = 5 * nodes_of_part (part_of l.part.now) + 3

abbrev pub decreases-free_stand_of_list : goal.decreases-free_stand_of_list
decreases-free_stand_of_list l = 5 * nodes_of (trees l.nodes.now) + 2

abbrev pub decreases-free_stand_of_list_with_holes : goal.decreases-free_stand_of_list_with_holes
decreases-free_stand_of_list_with_holes l = 5 * nodes_of (nullable_trees l.nodes.now) + 2

abbrev pub decreases-free_stand_of_hole : goal.decreases-free_stand_of_hole
decreases-free_stand_of_hole l = 5 * nodes_of_part (nullable l.node.now) + 1

abbrev pub invariant-free_stand_in-loop-part : goal.invariant-free_stand_in-loop-part
invariant-free_stand_in-loop-part l = free_stand_in l.options (seen l.lowered.nodes.items) (parts_of (drop l.part-index l.parts)) ≡ free_stand_in l.options (seen l.lowered.nodes.items) (parts_of l.parts)

abbrev pub invariant-free_stand_of_list-loop-node : goal.invariant-free_stand_of_list-loop-node
invariant-free_stand_of_list-loop-node l = free_stand_in l.options (seen l.lowered.nodes.items) (trees (drop l.node-index l.nodes)) ≡ free_stand_in l.options (seen l.lowered.nodes.items) (trees l.nodes)

abbrev pub invariant-free_stand_of_list_with_holes-loop-node : goal.invariant-free_stand_of_list_with_holes-loop-node
invariant-free_stand_of_list_with_holes-loop-node l = free_stand_in l.options (seen l.lowered.nodes.items) (nullable_trees (drop l.node-index l.nodes)) ≡ free_stand_in l.options (seen l.lowered.nodes.items) (nullable_trees l.nodes)
