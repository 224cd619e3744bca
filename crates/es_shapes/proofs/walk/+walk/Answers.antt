use Rattle.std.proofs.Common.{ap, arith}
use Rattle.es_base.specs.Preorder.{nodes, nodes_of_part}
use Rattle.es_base.specs.Tree.{nullable}
use Rattle.es_node.specs.View.{part_of}
use Rattle.es_node.proofs.Below.{part_below, tree_below, hole_below}
use Rattle.es_shapes.proofs.walk.+walk.Goals as goal

pub any_in-any_of-requires : goal.any_in-any_of-requires
any_in-any_of-requires g t c κs within = (omega (arith, part_below c.args.parts.now c.loop-part.part-index c.part-item.result c.loop-part-test.true, ap (λ p. nodes_of_part (part_of p)) c.part-item.is, c.decreases), within)

pub any_of_list-any_node-requires : goal.any_of_list-any_node-requires
any_of_list-any_node-requires g t c κs within = (omega (arith, tree_below c.args.nodes.now c.loop-node.node-index c.node-item.result c.loop-node-test.true, ap nodes c.node-item.is, c.decreases), within)

pub any_of_list_with_holes-any_of_hole-requires : goal.any_of_list_with_holes-any_of_hole-requires
any_of_list_with_holes-any_of_hole-requires g t c κs within = (omega (arith, hole_below c.args.nodes.now c.loop-node.node-index c.node-item.result c.loop-node-test.true, ap (λ n. nodes_of_part (nullable n)) c.node-item.is, c.decreases), within)
