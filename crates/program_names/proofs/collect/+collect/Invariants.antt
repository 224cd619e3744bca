use Rattle.std.proofs.Common.{◌≡◌, ◌+◌, ◌*◌, drop}
use Rattle.es_base.specs.Preorder.{nodes, nodes_of, nodes_of_part, preorder_of}
use Rattle.es_base.specs.Tree.{trees, nullable, nullable_trees}
use Rattle.es_node.specs.View.{part_of, parts_of}
use Rattle.program_names.specs.Spelled.{spellings_of}
use Rattle.es_names.specs.Taken.{with_strings}
use Rattle.program_names.proofs.collect.+collect.Given as goal

abbrev pub decreases-collect_node : goal.decreases-collect_node
decreases-collect_node l = 5 * nodes l.node.now

abbrev pub decreases-collect_parts : goal.decreases-collect_parts
decreases-collect_parts l = 5 * nodes_of (parts_of l.parts.now) + 4

abbrev pub decreases-collect_part : goal.decreases-collect_part
decreases-collect_part l = 5 * nodes_of_part (part_of l.part.now) + 3

abbrev pub decreases-collect_list : goal.decreases-collect_list
decreases-collect_list l = 5 * nodes_of (trees l.nodes.now) + 2

abbrev pub decreases-collect_list_with_holes : goal.decreases-collect_list_with_holes
decreases-collect_list_with_holes l = 5 * nodes_of (nullable_trees l.nodes.now) + 2

abbrev pub decreases-collect_hole : goal.decreases-collect_hole
decreases-collect_hole l = 5 * nodes_of_part (nullable l.node.now) + 1

abbrev pub invariant-collect_parts-loop-part : goal.invariant-collect_parts-loop-part
invariant-collect_parts-loop-part l = with_strings l.taken (spellings_of (preorder_of (parts_of (drop l.part-index l.parts)))) ≡ with_strings l.initial.taken (spellings_of (preorder_of (parts_of l.parts)))

abbrev pub invariant-collect_list-loop-node : goal.invariant-collect_list-loop-node
invariant-collect_list-loop-node l = with_strings l.taken (spellings_of (preorder_of (trees (drop l.node-index l.nodes)))) ≡ with_strings l.initial.taken (spellings_of (preorder_of (trees l.nodes)))

abbrev pub invariant-collect_list_with_holes-loop-node : goal.invariant-collect_list_with_holes-loop-node
invariant-collect_list_with_holes-loop-node l = with_strings l.taken (spellings_of (preorder_of (nullable_trees (drop l.node-index l.nodes)))) ≡ with_strings l.initial.taken (spellings_of (preorder_of (nullable_trees l.nodes)))
