use Rattle.std.proofs.Common.{ap, arith}
use Rattle.es_base.specs.Preorder.{nodes, nodes_of_part}
use Rattle.es_base.specs.Tree.{nullable}
use Rattle.es_node.specs.View.{part_of}
use Rattle.es_node.proofs.Below.{part_below, tree_below, hole_below}
use Rattle.es_shapes.proofs.own_name.+named.Goals as goal

pub is_named_in-is_named_at-requires : goal.is_named_in-is_named_at-requires
is_named_in-is_named_at-requires g t c κs within = (omega (arith, part_below c.args.parts.now c.loop-part.part-index c.part-item.result c.loop-part-test.true, ap (λ p. nodes_of_part (part_of p)) c.part-item.is, c.decreases), within)

pub is_named_in_list-is_named-requires : goal.is_named_in_list-is_named-requires
is_named_in_list-is_named-requires g t c κs within = (omega (arith, tree_below c.args.nodes.now c.loop-node.node-index c.node-item.result c.loop-node-test.true, ap nodes c.node-item.is, c.decreases), within)

pub is_named_in_list_with_holes-is_named_in_hole-requires : goal.is_named_in_list_with_holes-is_named_in_hole-requires
is_named_in_list_with_holes-is_named_in_hole-requires g t c κs within = (omega (arith, hole_below c.args.nodes.now c.loop-node.node-index c.node-item.result c.loop-node-test.true, ap (λ n. nodes_of_part (nullable n)) c.node-item.is, c.decreases), within)
