use Rattle.std.proofs.Common.{◌≡◌, List, ◌+◌, ◌*◌}
use Rattle.es_base.specs.Preorder.{nodes, nodes_of, nodes_of_part}
use Rattle.es_base.specs.Table.{Field}
use Rattle.es_base.specs.Tree.{child, trees, nullable, nullable_trees}
use Rattle.es_node.specs.View.{part_of, parts_of, have_shapes}
use Rattle.es_node.proofs.Renumbered.{Renumbers}
use Rattle.es_node.proofs.node.number.+number.Given as goal

abbrev pub decreases-renumber_node : goal.decreases-renumber_node
decreases-renumber_node l = 5 * nodes l.node.now

abbrev pub decreases-renumber_parts : goal.decreases-renumber_parts
decreases-renumber_parts l = 5 * nodes_of (parts_of l.parts.now) + 4

abbrev pub decreases-renumber_part : goal.decreases-renumber_part
decreases-renumber_part l = 5 * nodes_of_part (part_of l.part.now) + 3

abbrev pub decreases-renumber_list : goal.decreases-renumber_list
decreases-renumber_list l = 5 * nodes_of (trees l.nodes.now) + 2

abbrev pub decreases-renumber_list_with_holes : goal.decreases-renumber_list_with_holes
decreases-renumber_list_with_holes l = 5 * nodes_of (nullable_trees l.nodes.now) + 2

abbrev pub decreases-renumber_hole : goal.decreases-renumber_hole
decreases-renumber_hole l = 5 * nodes_of_part (nullable l.node.now) + 1

abbrev pub invariant-renumber_parts-loop-i : goal.invariant-renumber_parts-loop-i
invariant-renumber_parts-loop-i l = Renumbers parts_of part_of l.first l.initial.parts l.fn.next l.parts l.i l.next × ((fs : List Field) → have_shapes fs l.parts ≡ have_shapes fs l.initial.parts)

abbrev pub invariant-renumber_list-loop-i : goal.invariant-renumber_list-loop-i
invariant-renumber_list-loop-i l = Renumbers trees child l.first l.initial.nodes l.fn.next l.nodes l.i l.next

abbrev pub invariant-renumber_list_with_holes-loop-i : goal.invariant-renumber_list_with_holes-loop-i
invariant-renumber_list_with_holes-loop-i l = Renumbers nullable_trees nullable l.first l.initial.nodes l.fn.next l.nodes l.i l.next
