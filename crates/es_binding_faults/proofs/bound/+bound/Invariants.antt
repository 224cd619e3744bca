use Rattle.std.proofs.Common.{◌≡◌, ◌+◌, ◌*◌, ◌++◌, drop, map, length}
use Rattle.es_base.specs.Preorder.{nodes, nodes_of, nodes_of_part}
use Rattle.es_base.specs.Table.{field_of}
use Rattle.es_base.specs.Tree.{trees, nullable, nullable_trees}
use Rattle.es_node.specs.View.{part_of, parts_of}
use Rattle.es_steps.specs.Scopes.{no_class, bound_members, bound_items}
use Rattle.es_binding_faults.specs.Named.{named}
use Rattle.es_binding_faults.proofs.bound.+bound.Given as goal

abbrev pub decreases-add_bound : goal.decreases-add_bound
decreases-add_bound l = 6 * nodes l.node.now

abbrev pub decreases-add_bound_members : goal.decreases-add_bound_members
decreases-add_bound_members l = 6 * nodes_of (parts_of l.parts.now) + 5

abbrev pub decreases-add_bound_member : goal.decreases-add_bound_member
decreases-add_bound_member l = 6 * nodes_of_part (part_of l.part.now) + 4

abbrev pub decreases-add_bound_part : goal.decreases-add_bound_part
decreases-add_bound_part l = 6 * nodes_of_part (part_of l.part.now) + 3

abbrev pub decreases-add_bound_list : goal.decreases-add_bound_list
decreases-add_bound_list l = 6 * nodes_of (trees l.nodes.now) + 2

abbrev pub decreases-add_bound_list_with_holes : goal.decreases-add_bound_list_with_holes
decreases-add_bound_list_with_holes l = 6 * nodes_of (nullable_trees l.nodes.now) + 2

abbrev pub decreases-add_bound_hole : goal.decreases-add_bound_hole
decreases-add_bound_hole l = 6 * nodes_of_part (nullable l.node.now) + 1

abbrev pub invariant-add_bound_members-loop-i : goal.invariant-add_bound_members-loop-i
invariant-add_bound_members-loop-i l =
    (length l.members ≡ length l.parts) × (named l.names.items ++ bound_members no_class (map field_of (drop l.i l.members)) (parts_of (drop l.i l.parts)) ≡ named l.fn.names.items ++ bound_members no_class (map field_of l.members) (parts_of l.parts))

abbrev pub invariant-add_bound_list-loop-node : goal.invariant-add_bound_list-loop-node
invariant-add_bound_list-loop-node l = named l.names.items ++ bound_items no_class (trees (drop l.node-index l.nodes)) ≡ named l.fn.names.items ++ bound_items no_class (trees l.nodes)

abbrev pub invariant-add_bound_list_with_holes-loop-node : goal.invariant-add_bound_list_with_holes-loop-node
invariant-add_bound_list_with_holes-loop-node l = named l.names.items ++ bound_items no_class (nullable_trees (drop l.node-index l.nodes)) ≡ named l.fn.names.items ++ bound_items no_class (nullable_trees l.nodes)
