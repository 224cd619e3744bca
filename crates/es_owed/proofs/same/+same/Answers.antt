use Rattle.std.proofs.Common.{ap, arith}
use Rattle.es_base.specs.Preorder.{nodes, nodes_of_part}
use Rattle.es_base.specs.Tree.{nullable}
use Rattle.es_node.specs.View.{part_of}
use Rattle.es_node.proofs.Below.{part_below, tree_below, hole_below}
use Rattle.es_owed.proofs.same.+same.Goals as goal

pub same_members-same_part-requires : goal.same_members-same_part-requires
same_members-same_part-requires t c = (omega (arith, part_below c.args.parts.now c.loop-i.i c.index-parts-i.result c.loop-i-test.true, ap (λ p. nodes_of_part (part_of p)) c.index-parts-i.is, c.decreases), tt)

pub same_nodes-same_node-requires : goal.same_nodes-same_node-requires
same_nodes-same_node-requires t c = (omega (arith, tree_below c.args.nodes.now c.loop-i.i c.index-nodes-i.result c.loop-i-test.true, ap (λ p. nodes p) c.index-nodes-i.is, c.decreases), tt)

pub same_as_holes-is_hole_filled-requires : goal.same_as_holes-is_hole_filled-requires
same_as_holes-is_hole_filled-requires t c = (omega (arith, tree_below c.args.nodes.now c.loop-i.i c.index-nodes-i.result c.loop-i-test.true, ap (λ p. nodes p) c.index-nodes-i.is, c.decreases), tt)

pub holes_same-fills_hole-requires : goal.holes_same-fills_hole-requires
holes_same-fills_hole-requires t c = (omega (arith, hole_below c.args.nodes.now c.loop-i.i c.index-nodes-i.result c.loop-i-test.true, ap (λ p. nodes_of_part (nullable p)) c.index-nodes-i.is, c.decreases), tt)

pub same_holes-same_hole-requires : goal.same_holes-same_hole-requires
same_holes-same_hole-requires t c = (omega (arith, hole_below c.args.nodes.now c.loop-i.i c.index-nodes-i.result c.loop-i-test.true, ap (λ p. nodes_of_part (nullable p)) c.index-nodes-i.is, c.decreases), tt)
