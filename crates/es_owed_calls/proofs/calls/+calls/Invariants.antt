use Rattle.std.proofs.Common.{◌≡◌, ◌+◌, ◌*◌, drop}
use Rattle.es_base.specs.Preorder.{nodes, nodes_of, nodes_of_part}
use Rattle.es_base.specs.Tree.{trees, nullable, nullable_trees}
use Rattle.es_lowered.specs.HelperCalls.{calls_in}
use Rattle.es_node.specs.View.{part_of, parts_of}
use Rattle.es_owed_calls.specs.Conversions.{conversions_view}
use Rattle.es_owed_calls.specs.Strings.{strings}
use Rattle.es_owed_calls.proofs.calls.+calls.Given as goal

abbrev pub decreases-calls_fit : goal.decreases-calls_fit
decreases-calls_fit l = 5 * nodes l.node.now

abbrev pub decreases-calls_in : goal.decreases-calls_in
decreases-calls_in l = 5 * nodes_of (parts_of l.parts.now) + 4

abbrev pub decreases-calls_at : goal.decreases-calls_at
decreases-calls_at l = 5 * nodes_of_part (part_of l.part.now) + 3

abbrev pub decreases-calls_of_list : goal.decreases-calls_of_list
decreases-calls_of_list l = 5 * nodes_of (trees l.nodes.now) + 2

abbrev pub decreases-calls_of_list_with_holes : goal.decreases-calls_of_list_with_holes
decreases-calls_of_list_with_holes l = 5 * nodes_of (nullable_trees l.nodes.now) + 2

abbrev pub decreases-calls_of_hole : goal.decreases-calls_of_hole
decreases-calls_of_hole l = 5 * nodes_of_part (nullable l.node.now) + 1

abbrev pub invariant-calls_in-loop-part : goal.invariant-calls_in-loop-part
invariant-calls_in-loop-part l =
    let fit = calls_in l.facts.terms.first l.facts.terms.ledger.now l.facts.terms.keys.now (conversions_view l.facts.conversions) (strings l.names) in
    fit (parts_of (drop l.part-index l.parts)) ≡ fit (parts_of l.parts)

abbrev pub invariant-calls_of_list-loop-node : goal.invariant-calls_of_list-loop-node
invariant-calls_of_list-loop-node l =
    let fit = calls_in l.facts.terms.first l.facts.terms.ledger.now l.facts.terms.keys.now (conversions_view l.facts.conversions) (strings l.names) in
    fit (trees (drop l.node-index l.nodes)) ≡ fit (trees l.nodes)

abbrev pub invariant-calls_of_list_with_holes-loop-node : goal.invariant-calls_of_list_with_holes-loop-node
invariant-calls_of_list_with_holes-loop-node l =
    let fit = calls_in l.facts.terms.first l.facts.terms.ledger.now l.facts.terms.keys.now (conversions_view l.facts.conversions) (strings l.names) in
    fit (nullable_trees (drop l.node-index l.nodes)) ≡ fit (nullable_trees l.nodes)
