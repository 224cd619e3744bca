use Rattle.std.proofs.Common.{◌≡◌, ◌+◌, ◌*◌, ◌++◌, drop}
use Rattle.es_base.specs.Preorder.{nodes, nodes_of, nodes_of_part}
use Rattle.es_base.specs.Tree.{trees, nullable, nullable_trees}
use Rattle.es_node.specs.View.{part_of, parts_of}
use Rattle.es_binding_faults.specs.Hoisted.{hoisted_items}
use Rattle.es_binding_faults.specs.Named.{named}
use Rattle.es_binding_faults.proofs.hoisted.+hoisted.Given as goal

abbrev pub decreases-add_hoisted : goal.decreases-add_hoisted
decreases-add_hoisted l = 5 * nodes l.node.now

abbrev pub decreases-add_hoisted_parts : goal.decreases-add_hoisted_parts
decreases-add_hoisted_parts l = 5 * nodes_of (parts_of l.parts.now) + 4

abbrev pub decreases-add_hoisted_part : goal.decreases-add_hoisted_part
decreases-add_hoisted_part l = 5 * nodes_of_part (part_of l.part.now) + 3

abbrev pub decreases-add_hoisted_list : goal.decreases-add_hoisted_list
decreases-add_hoisted_list l = 5 * nodes_of (trees l.nodes.now) + 2

abbrev pub decreases-add_hoisted_list_with_holes : goal.decreases-add_hoisted_list_with_holes
decreases-add_hoisted_list_with_holes l = 5 * nodes_of (nullable_trees l.nodes.now) + 2

abbrev pub decreases-add_hoisted_hole : goal.decreases-add_hoisted_hole
decreases-add_hoisted_hole l = 5 * nodes_of_part (nullable l.node.now) + 1

abbrev pub invariant-add_hoisted_parts-loop-part : goal.invariant-add_hoisted_parts-loop-part
invariant-add_hoisted_parts-loop-part l = named l.names.items ++ hoisted_items l.hoist (parts_of (drop l.part-index l.parts)) ≡ named l.fn.names.items ++ hoisted_items l.hoist (parts_of l.parts)

abbrev pub invariant-add_hoisted_list-loop-node : goal.invariant-add_hoisted_list-loop-node
invariant-add_hoisted_list-loop-node l = named l.names.items ++ hoisted_items l.hoist (trees (drop l.node-index l.nodes)) ≡ named l.fn.names.items ++ hoisted_items l.hoist (trees l.nodes)

abbrev pub invariant-add_hoisted_list_with_holes-loop-node : goal.invariant-add_hoisted_list_with_holes-loop-node
invariant-add_hoisted_list_with_holes-loop-node l = named l.names.items ++ hoisted_items l.hoist (nullable_trees (drop l.node-index l.nodes)) ≡ named l.fn.names.items ++ hoisted_items l.hoist (nullable_trees l.nodes)
