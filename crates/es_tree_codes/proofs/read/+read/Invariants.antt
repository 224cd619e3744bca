use Rattle.std.proofs.Common.{◌≡◌, ◌+◌, ◌*◌, drop, length}
use Rattle.es_base.specs.Preorder.{nodes, nodes_of, nodes_of_part}
use Rattle.es_base.specs.Tree.{trees, nullable, nullable_trees}
use Rattle.es_node.specs.View.{kind_of, number_in, part_of, parts_in, parts_of}
use Rattle.es_steps.specs.Context.{inside}
use Rattle.es_steps.specs.Reading as spec
use Rattle.es_code_reading.specs.Contexts.{context_of}
use Rattle.es_tree_codes.specs.Onto.{items_onto, members_onto, read_from}
use Rattle.es_tree_codes.proofs.read.+read.Given as goal

abbrev pub decreases-read : goal.decreases-read
decreases-read l = 8 * nodes l.node.now

abbrev pub decreases-read_members : goal.decreases-read_members
decreases-read_members l = 8 * nodes_of (parts_of l.parts.now) + 7

abbrev pub decreases-read_member : goal.decreases-read_member
decreases-read_member l = 8 * nodes_of_part (part_of l.part.now) + 5

abbrev pub decreases-read_inside : goal.decreases-read_inside
decreases-read_inside l = 8 * nodes_of_part (part_of l.part.now) + 4

abbrev pub decreases-read_part : goal.decreases-read_part
decreases-read_part l = 8 * nodes_of_part (part_of l.part.now) + 3

abbrev pub decreases-read_list : goal.decreases-read_list
decreases-read_list l = 8 * nodes_of (trees l.nodes.now) + 2

abbrev pub decreases-read_list_with_holes : goal.decreases-read_list_with_holes
decreases-read_list_with_holes l = 8 * nodes_of (nullable_trees l.nodes.now) + 2

abbrev pub decreases-read_hole : goal.decreases-read_hole
decreases-read_hole l = 8 * nodes_of_part (nullable l.node.now) + 1

abbrev pub invariant-read_members-loop-i : goal.invariant-read_members-loop-i
invariant-read_members-loop-i l =
    let within = inside (context_of l.c) (kind_of l.node) (number_in l.node) (parts_in l.node) in
    (length l.members.items ≡ l.i) × (members_onto l.members.items (read_from within l.i (parts_of (drop l.i l.parts))) ≡ read_from within 0 (parts_of l.parts))

abbrev pub invariant-read_list-loop-node : goal.invariant-read_list-loop-node
invariant-read_list-loop-node l = items_onto l.codes (spec.read_items (context_of l.c) (trees (drop l.node-index l.nodes))) ≡ spec.read_items (context_of l.c) (trees l.nodes)

abbrev pub invariant-read_list_with_holes-loop-node : goal.invariant-read_list_with_holes-loop-node
invariant-read_list_with_holes-loop-node l = items_onto l.codes (spec.read_items (context_of l.c) (nullable_trees (drop l.node-index l.nodes))) ≡ spec.read_items (context_of l.c) (nullable_trees l.nodes)
