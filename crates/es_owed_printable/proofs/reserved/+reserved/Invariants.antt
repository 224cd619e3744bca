use Rattle.std.proofs.Common.{◌≡◌, ◌+◌, ◌*◌, drop}
use Rattle.es_base.specs.Preorder.{nodes, nodes_of, nodes_of_part}
use Rattle.es_base.specs.Tree.{trees, nullable, nullable_trees}
use Rattle.es_node.specs.View.{part_of, parts_of}
use Rattle.es_steps.specs.Reserved.{reserved_in}
use Rattle.es_owed_printable.specs.Words.{reserved_from, words_of, words_within}
use Rattle.es_owed_printable.proofs.reserved.+reserved.Given as goal

abbrev pub decreases-has_reserved : goal.decreases-has_reserved
decreases-has_reserved l = 5 * nodes l.node.now

abbrev pub decreases-reserved_in : goal.decreases-reserved_in
decreases-reserved_in l = 5 * nodes_of (parts_of l.parts.now) + 4

abbrev pub decreases-reserved_at : goal.decreases-reserved_at
decreases-reserved_at l = 5 * nodes_of_part (part_of l.part.now) + 3

abbrev pub decreases-reserved_of_list : goal.decreases-reserved_of_list
decreases-reserved_of_list l = 5 * nodes_of (trees l.nodes.now) + 2

abbrev pub decreases-reserved_of_list_with_holes : goal.decreases-reserved_of_list_with_holes
decreases-reserved_of_list_with_holes l = 5 * nodes_of (nullable_trees l.nodes.now) + 2

abbrev pub decreases-reserved_of_hole : goal.decreases-reserved_of_hole
decreases-reserved_of_hole l = 5 * nodes_of_part (nullable l.node.now) + 1

abbrev pub invariant-reserved_in-loop-i : goal.invariant-reserved_in-loop-i
invariant-reserved_in-loop-i l = reserved_from (words_within (words_of l.words) l.node) l.i (parts_of (drop l.i l.parts)) ≡ reserved_from (words_within (words_of l.words) l.node) 0 (parts_of l.parts)

abbrev pub invariant-reserved_of_list-loop-node : goal.invariant-reserved_of_list-loop-node
invariant-reserved_of_list-loop-node l = reserved_in (λ i. words_of l.words) (trees (drop l.node-index l.nodes)) ≡ reserved_in (λ i. words_of l.words) (trees l.nodes)

abbrev pub invariant-reserved_of_list_with_holes-loop-node : goal.invariant-reserved_of_list_with_holes-loop-node
invariant-reserved_of_list_with_holes-loop-node l = reserved_in (λ i. words_of l.words) (nullable_trees (drop l.node-index l.nodes)) ≡ reserved_in (λ i. words_of l.words) (nullable_trees l.nodes)
