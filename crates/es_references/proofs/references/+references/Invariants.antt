use Rattle.std.proofs.Common.{◌≡◌, ◌+◌, ◌*◌, ◌++◌, drop, map, length}
use Rattle.es_base.specs.Preorder.{nodes, nodes_of, nodes_of_part}
use Rattle.es_base.specs.Table.{field_of}
use Rattle.es_base.specs.Tree.{trees, nullable, nullable_trees}
use Rattle.es_node.specs.View.{part_of, parts_of}
use Rattle.es_steps.specs.Scopes.{is_body_part}
use Rattle.es_references.specs.References.{meant_from, meant_of, names_in, names_inside, references_of}
use Rattle.es_references.proofs.references.+references.Given as goal

abbrev pub decreases-add_references : goal.decreases-add_references
decreases-add_references l = 6 * nodes l.node.now

abbrev pub decreases-add_references_in : goal.decreases-add_references_in
decreases-add_references_in l = 6 * nodes_of (parts_of l.around.parts.now) + 5

abbrev pub decreases-add_references_of : goal.decreases-add_references_of
decreases-add_references_of l = 6 * nodes_of_part (part_of l.part.now) + 4

abbrev pub decreases-add_references_at : goal.decreases-add_references_at
decreases-add_references_at l = 6 * nodes_of_part (part_of l.part.now) + 3

abbrev pub decreases-add_references_of_list : goal.decreases-add_references_of_list
decreases-add_references_of_list l = 6 * nodes_of (trees l.nodes.now) + 2

abbrev pub decreases-add_references_of_list_with_holes : goal.decreases-add_references_of_list_with_holes
decreases-add_references_of_list_with_holes l = 6 * nodes_of (nullable_trees l.nodes.now) + 2

abbrev pub decreases-add_references_of_hole : goal.decreases-add_references_of_hole
decreases-add_references_of_hole l = 6 * nodes_of_part (nullable l.node.now) + 1

abbrev pub invariant-add_references_in-loop-i : goal.invariant-add_references_in-loop-i
invariant-add_references_in-loop-i l =
    let names = names_inside (names_in l.scope) l.around.is_body l.around.kind (parts_of l.parts) in
    let bodies = is_body_part l.around.kind in
    (length l.members ≡ length l.parts) × (references_of l.references.items ++ meant_from names bodies l.i (map field_of (drop l.i l.members)) (parts_of (drop l.i l.parts)) ≡ references_of l.fn.references.items ++ meant_from names bodies 0 (map field_of l.members) (parts_of l.parts))

abbrev pub invariant-add_references_of_list-loop-node : goal.invariant-add_references_of_list-loop-node
invariant-add_references_of_list-loop-node l = references_of l.references.items ++ meant_of (names_in l.scope) l.is_target (trees (drop l.node-index l.nodes)) ≡ references_of l.fn.references.items ++ meant_of (names_in l.scope) l.is_target (trees l.nodes)

abbrev pub invariant-add_references_of_list_with_holes-loop-node : goal.invariant-add_references_of_list_with_holes-loop-node
invariant-add_references_of_list_with_holes-loop-node l = references_of l.references.items ++ meant_of (names_in l.scope) l.is_target (nullable_trees (drop l.node-index l.nodes)) ≡ references_of l.fn.references.items ++ meant_of (names_in l.scope) l.is_target (nullable_trees l.nodes)
