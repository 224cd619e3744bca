use Rattle.std.proofs.Common.{◌≡◌, ◌+◌, ◌*◌, ◌++◌, map, drop}
use Rattle.es_base.specs.Preorder.{nodes, nodes_of, nodes_of_part}
use Rattle.es_base.specs.Tree.{trees, nullable, nullable_trees}
use Rattle.es_node.specs.View.{part_of, parts_of}
use Rattle.es_shapes.specs.Warnings.{awaits_in, place_of, places}
use Rattle.es_shapes.proofs.warnings.+awaits.Given as goal

abbrev pub decreases-add_awaits : goal.decreases-add_awaits
decreases-add_awaits l = 5 * nodes l.node.now

abbrev pub decreases-add_awaits_in : goal.decreases-add_awaits_in
decreases-add_awaits_in l = 5 * nodes_of (parts_of l.parts.now) + 4

abbrev pub decreases-add_awaits_of : goal.decreases-add_awaits_of
decreases-add_awaits_of l = 5 * nodes_of_part (part_of l.part.now) + 3

abbrev pub decreases-add_awaits_of_list : goal.decreases-add_awaits_of_list
decreases-add_awaits_of_list l = 5 * nodes_of (trees l.nodes.now) + 2

abbrev pub decreases-add_awaits_of_list_with_holes : goal.decreases-add_awaits_of_list_with_holes
decreases-add_awaits_of_list_with_holes l = 5 * nodes_of (nullable_trees l.nodes.now) + 2

abbrev pub decreases-add_awaits_of_hole : goal.decreases-add_awaits_of_hole
decreases-add_awaits_of_hole l = 5 * nodes_of_part (nullable l.node.now) + 1

abbrev pub invariant-add_awaits_in-loop-part : goal.invariant-add_awaits_in-loop-part
invariant-add_awaits_in-loop-part l = places l.warnings.items ++ map place_of (awaits_in (parts_of (drop l.part-index l.parts))) ≡ places l.initial.warnings.items ++ map place_of (awaits_in (parts_of l.parts))

abbrev pub invariant-add_awaits_of_list-loop-node : goal.invariant-add_awaits_of_list-loop-node
invariant-add_awaits_of_list-loop-node l = places l.warnings.items ++ map place_of (awaits_in (trees (drop l.node-index l.nodes))) ≡ places l.initial.warnings.items ++ map place_of (awaits_in (trees l.nodes))

abbrev pub invariant-add_awaits_of_list_with_holes-loop-node : goal.invariant-add_awaits_of_list_with_holes-loop-node
invariant-add_awaits_of_list_with_holes-loop-node l = places l.warnings.items ++ map place_of (awaits_in (nullable_trees (drop l.node-index l.nodes))) ≡ places l.initial.warnings.items ++ map place_of (awaits_in (nullable_trees l.nodes))
