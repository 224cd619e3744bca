use Rattle.std.proofs.Common.{◌+◌, ◌*◌}
use Rattle.es_base.specs.Preorder.{nodes, nodes_of, nodes_of_part}
use Rattle.es_base.specs.Tree.{trees, nullable, nullable_trees}
use Rattle.es_node.specs.View.{part_of, parts_of}
use Rattle.es_scopes.specs.Entries.{collected_parts, collected_items}
use Rattle.es_scopes.specs.Surroundings.{inside}
use Rattle.es_scopes_build.proofs.WalkLemmas.{Walks}
use Rattle.es_scopes_build.proofs.collect.+collect.Given as goal

abbrev pub decreases-collect_node : goal.decreases-collect_node
decreases-collect_node l = 5 * nodes l.node.now

abbrev pub decreases-collect_parts : goal.decreases-collect_parts
decreases-collect_parts l = 5 * nodes_of (parts_of l.parts.now) + 4

abbrev pub decreases-collect_part : goal.decreases-collect_part
decreases-collect_part l = 5 * nodes_of_part (part_of l.part.now) + 3

abbrev pub decreases-collect_list : goal.decreases-collect_list
decreases-collect_list l = 5 * nodes_of (trees l.nodes.now) + 2

abbrev pub decreases-collect_list_with_holes : goal.decreases-collect_list_with_holes
decreases-collect_list_with_holes l = 5 * nodes_of (nullable_trees l.nodes.now) + 2

abbrev pub decreases-collect_hole : goal.decreases-collect_hole
decreases-collect_hole l = 5 * nodes_of_part (nullable l.node.now) + 1

abbrev pub invariant-collect_parts-loop-i : goal.invariant-collect_parts-loop-i
invariant-collect_parts-loop-i l = Walks parts_of (collected_parts (inside l.parent.kind l.parent.own (parts_of l.parts) l.parent.around)) (record { entries = l.fn.entries; next = l.fn.next }) l.parts l.i (record { entries = l.entries; next = l.next })

abbrev pub invariant-collect_list-loop-i : goal.invariant-collect_list-loop-i
invariant-collect_list-loop-i l = Walks trees (λ i. collected_items l.around) (record { entries = l.fn.entries; next = l.fn.next }) l.nodes l.i (record { entries = l.entries; next = l.next })

abbrev pub invariant-collect_list_with_holes-loop-i : goal.invariant-collect_list_with_holes-loop-i
invariant-collect_list_with_holes-loop-i l = Walks nullable_trees (λ i. collected_items l.around) (record { entries = l.fn.entries; next = l.fn.next }) l.nodes l.i (record { entries = l.entries; next = l.next })
