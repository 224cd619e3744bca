use Rattle.std.proofs.Common.{◌≡◌, ◌+◌, ◌*◌, ◌++◌, drop}
use Rattle.es_base.specs.Preorder.{nodes, nodes_of, nodes_of_part}
use Rattle.es_base.specs.Tree.{trees, nullable, nullable_trees}
use Rattle.es_node.specs.View.{part_of, parts_of}
use Rattle.es_steps.specs.Meaning.{declaring_items}
use Rattle.es_declarations.specs.Declaring.{declares_within, declaring_from}
use Rattle.es_declarations.specs.Kinds.{bindings_in, kind_in}
use Rattle.es_declarations.proofs.declaring.+declaring.Given as goal

abbrev pub decreases-add_declaring : goal.decreases-add_declaring
decreases-add_declaring l = 5 * nodes l.node.now

abbrev pub decreases-add_declaring_in : goal.decreases-add_declaring_in
decreases-add_declaring_in l = 5 * nodes_of (parts_of l.parts.now) + 4

abbrev pub decreases-add_declaring_at : goal.decreases-add_declaring_at
decreases-add_declaring_at l = 5 * nodes_of_part (part_of l.part.now) + 3

abbrev pub decreases-add_declaring_of_list : goal.decreases-add_declaring_of_list
decreases-add_declaring_of_list l = 5 * nodes_of (trees l.nodes.now) + 2

abbrev pub decreases-add_declaring_of_list_with_holes : goal.decreases-add_declaring_of_list_with_holes
decreases-add_declaring_of_list_with_holes l = 5 * nodes_of (nullable_trees l.nodes.now) + 2

abbrev pub decreases-add_declaring_of_hole : goal.decreases-add_declaring_of_hole
decreases-add_declaring_of_hole l = 5 * nodes_of_part (nullable l.node.now) + 1

abbrev pub invariant-add_declaring_in-loop-i : goal.invariant-add_declaring_in-loop-i
invariant-add_declaring_in-loop-i l =
    let within = declares_within l.first l.node (kind_in l.kind) in
    bindings_in l.found.items ++ declaring_from l.first within l.i (parts_of (drop l.i l.parts)) ≡ bindings_in l.fn.found.items ++ declaring_from l.first within 0 (parts_of l.parts)

abbrev pub invariant-add_declaring_of_list-loop-node : goal.invariant-add_declaring_of_list-loop-node
invariant-add_declaring_of_list-loop-node l = bindings_in l.found.items ++ declaring_items l.first (kind_in l.kind) (trees (drop l.node-index l.nodes)) ≡ bindings_in l.fn.found.items ++ declaring_items l.first (kind_in l.kind) (trees l.nodes)

abbrev pub invariant-add_declaring_of_list_with_holes-loop-node : goal.invariant-add_declaring_of_list_with_holes-loop-node
invariant-add_declaring_of_list_with_holes-loop-node l = bindings_in l.found.items ++ declaring_items l.first (kind_in l.kind) (nullable_trees (drop l.node-index l.nodes)) ≡ bindings_in l.fn.found.items ++ declaring_items l.first (kind_in l.kind) (nullable_trees l.nodes)
