use Rattle.std.proofs.Common.{◌≡◌, ◌+◌, ◌*◌, ◌++◌, drop}
use Rattle.es_base.specs.Preorder.{nodes, nodes_of, nodes_of_part}
use Rattle.es_base.specs.Tree.{trees, nullable, nullable_trees}
use Rattle.es_node.specs.View.{part_of, parts_of}
use Rattle.es_steps.specs.Strict.{strict_in}
use Rattle.es_owed.proofs.strict.+strict.Given as goal

abbrev pub decreases-add_strict : goal.decreases-add_strict
decreases-add_strict l = 5 * nodes l.node.now

abbrev pub decreases-add_strict_in : goal.decreases-add_strict_in
decreases-add_strict_in l = 5 * nodes_of (parts_of l.parts.now) + 4

abbrev pub decreases-add_strict_at : goal.decreases-add_strict_at
decreases-add_strict_at l = 5 * nodes_of_part (part_of l.part.now) + 3

abbrev pub decreases-add_strict_of_list : goal.decreases-add_strict_of_list
decreases-add_strict_of_list l = 5 * nodes_of (trees l.nodes.now) + 2

abbrev pub decreases-add_strict_of_list_with_holes : goal.decreases-add_strict_of_list_with_holes
decreases-add_strict_of_list_with_holes l = 5 * nodes_of (nullable_trees l.nodes.now) + 2

abbrev pub decreases-add_strict_of_hole : goal.decreases-add_strict_of_hole
decreases-add_strict_of_hole l = 5 * nodes_of_part (nullable l.node.now) + 1

abbrev pub invariant-add_strict_in-loop-part : goal.invariant-add_strict_in-loop-part
invariant-add_strict_in-loop-part l = l.numbers.items ++ strict_in l.strict (parts_of (drop l.part-index l.parts)) ≡ l.fn.numbers.items ++ strict_in l.strict (parts_of l.parts)

abbrev pub invariant-add_strict_of_list-loop-node : goal.invariant-add_strict_of_list-loop-node
invariant-add_strict_of_list-loop-node l = l.numbers.items ++ strict_in l.strict (trees (drop l.node-index l.nodes)) ≡ l.fn.numbers.items ++ strict_in l.strict (trees l.nodes)

abbrev pub invariant-add_strict_of_list_with_holes-loop-node : goal.invariant-add_strict_of_list_with_holes-loop-node
invariant-add_strict_of_list_with_holes-loop-node l = l.numbers.items ++ strict_in l.strict (nullable_trees (drop l.node-index l.nodes)) ≡ l.fn.numbers.items ++ strict_in l.strict (nullable_trees l.nodes)
