use Rattle.std.proofs.Common.{◌≡◌, ◌+◌, ◌*◌, ◌++◌, drop}
use Rattle.es_base.specs.Preorder.{nodes, nodes_of, nodes_of_part}
use Rattle.es_base.specs.Tree.{trees, nullable, nullable_trees}
use Rattle.es_node.specs.View.{part_of, parts_of}
use Rattle.es_steps.specs.Scopes.{lexical_items}
use Rattle.es_seen_names.specs.Declarations.{declarations}
use Rattle.es_seen_names.proofs.lexical.+lexical.Given as goal

abbrev pub decreases-add_lexical : goal.decreases-add_lexical
decreases-add_lexical l = 5 * nodes l.node.now

abbrev pub decreases-add_lexical_parts : goal.decreases-add_lexical_parts
decreases-add_lexical_parts l = 5 * nodes_of (parts_of l.parts.now) + 4

abbrev pub decreases-add_lexical_part : goal.decreases-add_lexical_part
decreases-add_lexical_part l = 5 * nodes_of_part (part_of l.part.now) + 3

abbrev pub decreases-add_lexical_list : goal.decreases-add_lexical_list
decreases-add_lexical_list l = 5 * nodes_of (trees l.nodes.now) + 2

abbrev pub decreases-add_lexical_list_with_holes : goal.decreases-add_lexical_list_with_holes
decreases-add_lexical_list_with_holes l = 5 * nodes_of (nullable_trees l.nodes.now) + 2

abbrev pub decreases-add_lexical_hole : goal.decreases-add_lexical_hole
decreases-add_lexical_hole l = 5 * nodes_of_part (nullable l.node.now) + 1

abbrev pub invariant-add_lexical_parts-loop-part : goal.invariant-add_lexical_parts-loop-part
invariant-add_lexical_parts-loop-part l = declarations l.names.items ++ lexical_items (parts_of (drop l.part-index l.parts)) ≡ declarations l.fn.names.items ++ lexical_items (parts_of l.parts)

abbrev pub invariant-add_lexical_list-loop-node : goal.invariant-add_lexical_list-loop-node
invariant-add_lexical_list-loop-node l = declarations l.names.items ++ lexical_items (trees (drop l.node-index l.nodes)) ≡ declarations l.fn.names.items ++ lexical_items (trees l.nodes)

abbrev pub invariant-add_lexical_list_with_holes-loop-node : goal.invariant-add_lexical_list_with_holes-loop-node
invariant-add_lexical_list_with_holes-loop-node l = declarations l.names.items ++ lexical_items (nullable_trees (drop l.node-index l.nodes)) ≡ declarations l.fn.names.items ++ lexical_items (nullable_trees l.nodes)
