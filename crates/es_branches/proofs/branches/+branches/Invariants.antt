use Rattle.std.proofs.Common.{◌≡◌, ◌+◌, ◌*◌, ◌++◌, drop}
use Rattle.es_base.specs.Preorder.{nodes, nodes_of, nodes_of_part}
use Rattle.es_base.specs.Tree.{trees, nullable, nullable_trees}
use Rattle.es_by_number.specs.Numbered.{pairs}
use Rattle.es_node.specs.View.{part_of, parts_of}
use Rattle.es_references.specs.References.{names_in}
use Rattle.es_branches.specs.Branching.{branches_from, branches_of, names_within}
use Rattle.es_branches.proofs.branches.+branches.Given as goal

abbrev pub decreases-add_branches : goal.decreases-add_branches
decreases-add_branches l = 6 * nodes l.node.now

abbrev pub decreases-add_branches_within : goal.decreases-add_branches_within
decreases-add_branches_within l = 6 * nodes_of (parts_of l.around.parts.now) + 5

abbrev pub decreases-add_branches_of_part : goal.decreases-add_branches_of_part
decreases-add_branches_of_part l = 6 * nodes_of_part (part_of l.part.now) + 4

abbrev pub decreases-add_branches_at : goal.decreases-add_branches_at
decreases-add_branches_at l = 6 * nodes_of_part (part_of l.part.now) + 3

abbrev pub decreases-add_branches_of_list : goal.decreases-add_branches_of_list
decreases-add_branches_of_list l = 6 * nodes_of (trees l.nodes.now) + 2

abbrev pub decreases-add_branches_of_list_with_holes : goal.decreases-add_branches_of_list_with_holes
decreases-add_branches_of_list_with_holes l = 6 * nodes_of (nullable_trees l.nodes.now) + 2

abbrev pub decreases-add_branches_of_hole : goal.decreases-add_branches_of_hole
decreases-add_branches_of_hole l = 6 * nodes_of_part (nullable l.node.now) + 1

abbrev pub invariant-add_branches_within-loop-i : goal.invariant-add_branches_within-loop-i
invariant-add_branches_within-loop-i l =
    let names = names_within (names_in l.scope) l.around.is_body l.around.kind (parts_of l.parts) in
    pairs l.found.items ++ branches_from names l.i (parts_of (drop l.i l.parts)) ≡ pairs l.fn.found.items ++ branches_from names 0 (parts_of l.parts)

abbrev pub invariant-add_branches_of_list-loop-node : goal.invariant-add_branches_of_list-loop-node
invariant-add_branches_of_list-loop-node l = pairs l.found.items ++ branches_of (names_in l.scope) (trees (drop l.node-index l.nodes)) ≡ pairs l.fn.found.items ++ branches_of (names_in l.scope) (trees l.nodes)

abbrev pub invariant-add_branches_of_list_with_holes-loop-node : goal.invariant-add_branches_of_list_with_holes-loop-node
invariant-add_branches_of_list_with_holes-loop-node l = pairs l.found.items ++ branches_of (names_in l.scope) (nullable_trees (drop l.node-index l.nodes)) ≡ pairs l.fn.found.items ++ branches_of (names_in l.scope) (nullable_trees l.nodes)
