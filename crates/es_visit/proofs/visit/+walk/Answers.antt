use Rattle.std.proofs.Common.{ap, arith}
use Rattle.es_base.specs.Preorder.{nodes, nodes_of_part}
use Rattle.es_base.specs.Tree.{nullable}
use Rattle.es_node.proofs.Below.{part_below, tree_below, hole_below}
use Rattle.es_node.specs.View.{part_of, parts_of}
use Rattle.es_visit.proofs.Nodes.{node_read}
use Rattle.es_visit.proofs.visit.+walk.Goals as goal

pub walk_node-returns-then-enter : goal.walk_node-returns-then-enter
walk_node-returns-then-enter g t c = λ rest end h.
    node_read g.V.Visit.leads g.V.Visit.goes c.args.role c.args.node.now c.kind.result c.kind-then-enter.result c.is_computed.result c.enter.result (parts_of c.parts-parts.result.now) c.args.visitor.now c.enter.new.visitor rest end
    c.kind.ensures c.kind-then-enter.ensures c.is_computed.ensures c.parts-parts.ensures.list c.if-enter.true c.enter.ensures (c.walk_parts.ensures rest end h)

pub walk_nodes-walk_node-requires : goal.walk_nodes-walk_node-requires
walk_nodes-walk_node-requires g t c κs within = (omega (arith, tree_below c.args.nodes.now c.loop-node.node-index c.node-item.result c.loop-node-test.true, ap nodes c.node-item.is, c.decreases), within)

pub walk_nodes_or_holes-walk_node_or_hole-requires : goal.walk_nodes_or_holes-walk_node_or_hole-requires
walk_nodes_or_holes-walk_node_or_hole-requires g t c κs within = (omega (arith, hole_below c.args.nodes.now c.loop-node.node-index c.node-item.result c.loop-node-test.true, ap (λ n. nodes_of_part (nullable n)) c.node-item.is, c.decreases), within)

pub walk_parts-walk_part-requires : goal.walk_parts-walk_part-requires
walk_parts-walk_part-requires g t c κs within = (omega (arith, part_below c.args.parts.now c.loop-i.i c.index-parts-i.result c.loop-i-test.true, ap (λ p. nodes_of_part (part_of p)) c.index-parts-i.is, c.decreases), within)
