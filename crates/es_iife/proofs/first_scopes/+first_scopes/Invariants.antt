use Rattle.std.proofs.Common.{◌≡◌, ◌+◌, ◌*◌, ◌++◌, drop}
use Rattle.es_base.specs.Preorder.{nodes, nodes_of, nodes_of_part}
use Rattle.es_base.specs.Tree.{trees, nullable, nullable_trees}
use Rattle.es_iife.specs.FirstScopes.{scopes_in}
use Rattle.es_node.specs.View.{part_of, parts_of}
use Rattle.es_iife.proofs.first_scopes.+first_scopes.Given as goal

abbrev pub decreases-add_scopes : goal.decreases-add_scopes
decreases-add_scopes l = 6 * nodes l.node.now

abbrev pub decreases-add_outside : goal.decreases-add_outside
decreases-add_outside l = 6 * nodes_of (parts_of l.parts.now) + 5

abbrev pub decreases-add_parts : goal.decreases-add_parts
decreases-add_parts l = 6 * nodes_of (parts_of l.parts.now) + 4

abbrev pub decreases-add_part : goal.decreases-add_part
decreases-add_part l = 6 * nodes_of_part (part_of l.part.now) + 3

abbrev pub decreases-add_list : goal.decreases-add_list
decreases-add_list l = 6 * nodes_of (trees l.nodes.now) + 2

abbrev pub decreases-add_list_with_holes : goal.decreases-add_list_with_holes
decreases-add_list_with_holes l = 6 * nodes_of (nullable_trees l.nodes.now) + 2

abbrev pub decreases-add_hole : goal.decreases-add_hole
decreases-add_hole l = 6 * nodes_of_part (nullable l.node.now) + 1

abbrev pub invariant-add_parts-loop-part : goal.invariant-add_parts-loop-part
invariant-add_parts-loop-part l = l.scopes ++ scopes_in (parts_of (drop l.part-index l.parts)) ≡ l.initial.scopes ++ scopes_in (parts_of l.parts)

abbrev pub invariant-add_list-loop-node : goal.invariant-add_list-loop-node
invariant-add_list-loop-node l = l.scopes ++ scopes_in (trees (drop l.node-index l.nodes)) ≡ l.initial.scopes ++ scopes_in (trees l.nodes)

abbrev pub invariant-add_list_with_holes-loop-node : goal.invariant-add_list_with_holes-loop-node
invariant-add_list_with_holes-loop-node l = l.scopes ++ scopes_in (nullable_trees (drop l.node-index l.nodes)) ≡ l.initial.scopes ++ scopes_in (nullable_trees l.nodes)
