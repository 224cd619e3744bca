use Rattle.std.proofs.Common.{◌≡◌, ◌+◌, ◌*◌, ◌++◌, drop}
use Rattle.es_base.specs.Preorder.{nodes, nodes_of, nodes_of_part}
use Rattle.es_base.specs.Tree.{trees, nullable, nullable_trees}
use Rattle.es_lowered.specs.Definitions.{definitions_of}
use Rattle.es_node.specs.View.{part_of, parts_of}
use Rattle.es_owed_definitions.specs.Views.{definition_views}
use Rattle.es_owed_definitions.proofs.found.+found.Given as goal

abbrev pub decreases-add_definitions_in : goal.decreases-add_definitions_in
decreases-add_definitions_in l = 5 * nodes l.node.now

abbrev pub decreases-add_definitions_of : goal.decreases-add_definitions_of
decreases-add_definitions_of l = 5 * nodes_of (parts_of l.parts.now) + 4

abbrev pub decreases-add_definitions_of_part : goal.decreases-add_definitions_of_part
decreases-add_definitions_of_part l = 5 * nodes_of_part (part_of l.part.now) + 3

abbrev pub decreases-add_definitions_of_list : goal.decreases-add_definitions_of_list
decreases-add_definitions_of_list l = 5 * nodes_of (trees l.nodes.now) + 2

abbrev pub decreases-add_definitions_of_list_with_holes : goal.decreases-add_definitions_of_list_with_holes
decreases-add_definitions_of_list_with_holes l = 5 * nodes_of (nullable_trees l.nodes.now) + 2

abbrev pub decreases-add_definitions_of_hole : goal.decreases-add_definitions_of_hole
decreases-add_definitions_of_hole l = 5 * nodes_of_part (nullable l.node.now) + 1

abbrev pub invariant-add_definitions_of-loop-part : goal.invariant-add_definitions_of-loop-part
invariant-add_definitions_of-loop-part l = definition_views l.found.items ++ definitions_of l.terms.first l.terms.options.now l.terms.ledger.now l.class (parts_of (drop l.part-index l.parts)) ≡ definition_views l.fn.found.items ++ definitions_of l.terms.first l.terms.options.now l.terms.ledger.now l.class (parts_of l.parts)

abbrev pub invariant-add_definitions_of_list-loop-node : goal.invariant-add_definitions_of_list-loop-node
invariant-add_definitions_of_list-loop-node l = definition_views l.found.items ++ definitions_of l.terms.first l.terms.options.now l.terms.ledger.now l.class (trees (drop l.node-index l.nodes)) ≡ definition_views l.fn.found.items ++ definitions_of l.terms.first l.terms.options.now l.terms.ledger.now l.class (trees l.nodes)

abbrev pub invariant-add_definitions_of_list_with_holes-loop-node : goal.invariant-add_definitions_of_list_with_holes-loop-node
invariant-add_definitions_of_list_with_holes-loop-node l = definition_views l.found.items ++ definitions_of l.terms.first l.terms.options.now l.terms.ledger.now l.class (nullable_trees (drop l.node-index l.nodes)) ≡ definition_views l.fn.found.items ++ definitions_of l.terms.first l.terms.options.now l.terms.ledger.now l.class (nullable_trees l.nodes)
