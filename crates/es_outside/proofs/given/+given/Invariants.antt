use Rattle.std.proofs.Common.{◌≡◌, ◌+◌, ◌*◌, ◌++◌, drop}
use Rattle.es_base.specs.Preorder.{nodes, nodes_of, nodes_of_part}
use Rattle.es_base.specs.Tree.{trees, nullable, nullable_trees}
use Rattle.es_node.specs.View.{part_of, parts_of}
use Rattle.es_steps.specs.Scopes.{is_body_part}
use Rattle.es_references.specs.Frames.{ids}
use Rattle.es_outside.specs.Given.{given_from, given_by_items, names_passed}
use Rattle.es_references.specs.References.{names_in, names_inside}
use Rattle.es_outside.proofs.given.+given.Given as goal

abbrev pub decreases-add_given : goal.decreases-add_given
decreases-add_given l = 7 * nodes l.node.now

abbrev pub decreases-add_given_inside : goal.decreases-add_given_inside
decreases-add_given_inside l = 7 * nodes_of (parts_of l.around.parts.now) + 6

abbrev pub decreases-add_given_in : goal.decreases-add_given_in
decreases-add_given_in l = 7 * nodes_of (parts_of l.around.parts.now) + 5

abbrev pub decreases-add_given_of : goal.decreases-add_given_of
decreases-add_given_of l = 7 * nodes_of_part (part_of l.part.now) + 4

abbrev pub decreases-add_given_at : goal.decreases-add_given_at
decreases-add_given_at l = 7 * nodes_of_part (part_of l.part.now) + 3

abbrev pub decreases-add_given_of_list : goal.decreases-add_given_of_list
decreases-add_given_of_list l = 7 * nodes_of (trees l.nodes.now) + 2

abbrev pub decreases-add_given_of_list_with_holes : goal.decreases-add_given_of_list_with_holes
decreases-add_given_of_list_with_holes l = 7 * nodes_of (nullable_trees l.nodes.now) + 2

abbrev pub decreases-add_given_of_hole : goal.decreases-add_given_of_hole
decreases-add_given_of_hole l = 7 * nodes_of_part (nullable l.node.now) + 1

abbrev pub invariant-add_given_in-loop-i : goal.invariant-add_given_in-loop-i
invariant-add_given_in-loop-i l =
    let names = names_inside (names_in l.names) l.around.is_body l.around.kind (parts_of l.parts) in
    let passed = names_passed (names_in l.uncaught) l.around.is_body l.around.kind (parts_of l.parts) in
    let bodies = is_body_part l.around.kind in
    ids l.bindings.items ++ given_from names passed bodies l.i (parts_of (drop l.i l.parts)) ≡ ids l.fn.bindings.items ++ given_from names passed bodies 0 (parts_of l.parts)

abbrev pub invariant-add_given_of_list-loop-node : goal.invariant-add_given_of_list-loop-node
invariant-add_given_of_list-loop-node l = ids l.bindings.items ++ given_by_items (names_in l.names) (names_in l.uncaught) (trees (drop l.node-index l.nodes)) ≡ ids l.fn.bindings.items ++ given_by_items (names_in l.names) (names_in l.uncaught) (trees l.nodes)

abbrev pub invariant-add_given_of_list_with_holes-loop-node : goal.invariant-add_given_of_list_with_holes-loop-node
invariant-add_given_of_list_with_holes-loop-node l = ids l.bindings.items ++ given_by_items (names_in l.names) (names_in l.uncaught) (nullable_trees (drop l.node-index l.nodes)) ≡ ids l.fn.bindings.items ++ given_by_items (names_in l.names) (names_in l.uncaught) (nullable_trees l.nodes)
