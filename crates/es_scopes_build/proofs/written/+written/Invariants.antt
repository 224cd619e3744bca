use Rattle.std.proofs.Common.{◌≡◌, List, ◌+◌, ◌*◌}
use Rattle.es_base.specs.Preorder.{nodes, nodes_of, nodes_of_part}
use Rattle.es_base.specs.Table.{Field}
use Rattle.es_base.specs.Tree.{child, trees, nullable, nullable_trees}
use Rattle.es_node.specs.View.{part_of, parts_of, have_shapes}
use Rattle.es_scopes_build.proofs.WriteLemmas.{Writes}
use Rattle.es_scopes_build.proofs.written.+written.Given as goal

abbrev pub decreases-write_node : goal.decreases-write_node
decreases-write_node l = 5 * nodes l.node.now

abbrev pub decreases-write_parts : goal.decreases-write_parts
decreases-write_parts l = 5 * nodes_of (parts_of l.parts.now) + 4

abbrev pub decreases-write_part : goal.decreases-write_part
decreases-write_part l = 5 * nodes_of_part (part_of l.part.now) + 3

abbrev pub decreases-write_list : goal.decreases-write_list
decreases-write_list l = 5 * nodes_of (trees l.nodes.now) + 2

abbrev pub decreases-write_list_with_holes : goal.decreases-write_list_with_holes
decreases-write_list_with_holes l = 5 * nodes_of (nullable_trees l.nodes.now) + 2

abbrev pub decreases-write_hole : goal.decreases-write_hole
decreases-write_hole l = 5 * nodes_of_part (nullable l.node.now) + 1

abbrev pub invariant-write_parts-loop-i : goal.invariant-write_parts-loop-i
invariant-write_parts-loop-i l = Writes parts_of part_of l.ids l.initial.parts l.fn.next l.parts l.i l.next × ((fs : List Field) → have_shapes fs l.parts ≡ have_shapes fs l.initial.parts)

abbrev pub invariant-write_list-loop-i : goal.invariant-write_list-loop-i
invariant-write_list-loop-i l = Writes trees child l.ids l.initial.nodes l.fn.next l.nodes l.i l.next

abbrev pub invariant-write_list_with_holes-loop-i : goal.invariant-write_list_with_holes-loop-i
invariant-write_list_with_holes-loop-i l = Writes nullable_trees nullable l.ids l.initial.nodes l.fn.next l.nodes l.i l.next
