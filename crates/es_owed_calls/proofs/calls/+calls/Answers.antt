use Rattle.std.proofs.Common.{ap, arith}
use Rattle.es_base.specs.Preorder.{nodes, nodes_of_part}
use Rattle.es_base.specs.Tree.{nullable}
use Rattle.es_node.specs.View.{part_of}
use Rattle.es_node.proofs.Below.{part_below, tree_below, hole_below}
use Rattle.es_owed_calls.proofs.calls.+calls.Goals as goal

pub calls_in-calls_at-requires : goal.calls_in-calls_at-requires
calls_in-calls_at-requires t c = (omega (arith, part_below c.args.parts.now c.loop-part.part-index c.part-item.result c.loop-part-test.true, ap (λ p. nodes_of_part (part_of p)) c.part-item.is, c.decreases), tt)

pub calls_of_list-calls_fit-requires : goal.calls_of_list-calls_fit-requires
calls_of_list-calls_fit-requires t c = (omega (arith, tree_below c.args.nodes.now c.loop-node.node-index c.node-item.result c.loop-node-test.true, ap nodes c.node-item.is, c.decreases), tt)

pub calls_of_list_with_holes-calls_of_hole-requires : goal.calls_of_list_with_holes-calls_of_hole-requires
calls_of_list_with_holes-calls_of_hole-requires t c = (omega (arith, hole_below c.args.nodes.now c.loop-node.node-index c.node-item.result c.loop-node-test.true, ap (λ n. nodes_of_part (nullable n)) c.node-item.is, c.decreases), tt)
