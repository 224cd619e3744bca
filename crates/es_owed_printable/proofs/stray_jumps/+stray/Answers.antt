use Rattle.std.proofs.Common.{ap, arith}
use Rattle.es_base.specs.Preorder.{nodes, nodes_of_part}
use Rattle.es_base.specs.Tree.{nullable}
use Rattle.es_node.specs.View.{part_of}
use Rattle.es_node.proofs.Below.{part_below, tree_below, hole_below}
use Rattle.es_owed_printable.proofs.stray_jumps.+stray.Goals as goal

pub stray_in-stray_at-requires : goal.stray_in-stray_at-requires
stray_in-stray_at-requires t c = (omega (arith, part_below c.args.parts.now c.loop-part.part-index c.part-item.result c.loop-part-test.true, ap (λ p. nodes_of_part (part_of p)) c.part-item.is, c.decreases), tt)

pub stray_of_list-has_stray-requires : goal.stray_of_list-has_stray-requires
stray_of_list-has_stray-requires t c = (omega (arith, tree_below c.args.nodes.now c.loop-node.node-index c.node-item.result c.loop-node-test.true, ap nodes c.node-item.is, c.decreases), tt)

pub stray_of_list_with_holes-stray_of_hole-requires : goal.stray_of_list_with_holes-stray_of_hole-requires
stray_of_list_with_holes-stray_of_hole-requires t c = (omega (arith, hole_below c.args.nodes.now c.loop-node.node-index c.node-item.result c.loop-node-test.true, ap (λ n. nodes_of_part (nullable n)) c.node-item.is, c.decreases), tt)
