use Rattle.std.proofs.Common.{◌≡◌, ◌+◌, ◌*◌, ◌++◌, drop}
use Rattle.es_base.specs.Preorder.{nodes, nodes_of, nodes_of_part}
use Rattle.es_base.specs.Tree.{trees, nullable, nullable_trees}
use Rattle.es_by_number.specs.Numbered.{pairs}
use Rattle.es_node.specs.View.{kind_of, part_of, parts_of}
use Rattle.es_steps.specs.Scopes.{is_body_part}
use Rattle.es_steps.specs.Shared.{shared_of}
use Rattle.es_shared_names.specs.SharedParts.{shared_from}
use Rattle.es_shared_names.proofs.shared.+shared.Given as goal

abbrev pub decreases-add_shared : goal.decreases-add_shared
decreases-add_shared l = 5 * nodes l.node.now

abbrev pub decreases-add_shared_in : goal.decreases-add_shared_in
decreases-add_shared_in l = 5 * nodes_of (parts_of l.parts.now) + 4

abbrev pub decreases-add_shared_at : goal.decreases-add_shared_at
decreases-add_shared_at l = 5 * nodes_of_part (part_of l.part.now) + 3

abbrev pub decreases-add_shared_of_list : goal.decreases-add_shared_of_list
decreases-add_shared_of_list l = 5 * nodes_of (trees l.nodes.now) + 2

abbrev pub decreases-add_shared_of_list_with_holes : goal.decreases-add_shared_of_list_with_holes
decreases-add_shared_of_list_with_holes l = 5 * nodes_of (nullable_trees l.nodes.now) + 2

abbrev pub decreases-add_shared_of_hole : goal.decreases-add_shared_of_hole
decreases-add_shared_of_hole l = 5 * nodes_of_part (nullable l.node.now) + 1

abbrev pub invariant-add_shared_in-loop-i : goal.invariant-add_shared_in-loop-i
invariant-add_shared_in-loop-i l =
    let bodies = is_body_part (kind_of l.node) in
    pairs l.found.items ++ shared_from bodies l.i (parts_of (drop l.i l.parts)) ≡ pairs l.fn.found.items ++ shared_from bodies 0 (parts_of l.parts)

abbrev pub invariant-add_shared_of_list-loop-node : goal.invariant-add_shared_of_list-loop-node
invariant-add_shared_of_list-loop-node l = pairs l.found.items ++ shared_of (trees (drop l.node-index l.nodes)) ≡ pairs l.fn.found.items ++ shared_of (trees l.nodes)

abbrev pub invariant-add_shared_of_list_with_holes-loop-node : goal.invariant-add_shared_of_list_with_holes-loop-node
invariant-add_shared_of_list_with_holes-loop-node l = pairs l.found.items ++ shared_of (nullable_trees (drop l.node-index l.nodes)) ≡ pairs l.fn.found.items ++ shared_of (nullable_trees l.nodes)
