use Rattle.std.proofs.Common.{rules, arith}
use Rattle.es_writing.proofs.Sizes.{size_of_item, size_of_node, size_of_nullable_node}
use Rattle.es_writing.proofs.kept.+kept.Goals as goal

pub visit_parts-visit_part-requires : goal.visit_parts-visit_part-requires
visit_parts-visit_part-requires t c =
    let small = size_of_item c.args.parts.now c.loop-part.part-index c.part-item.result c.loop-part-test.true (search rules) in
    omega (arith, small)

pub visit_nodes-visit_tree-requires : goal.visit_nodes-visit_tree-requires
visit_nodes-visit_tree-requires t c =
    let small = size_of_node c.args.nodes.now c.loop-node.node-index c.node-item.result c.loop-node-test.true (search rules) in
    omega (arith, small)

pub visit_nullable_nodes-visit_nullable_node-requires : goal.visit_nullable_nodes-visit_nullable_node-requires
visit_nullable_nodes-visit_nullable_node-requires t c =
    let small = size_of_nullable_node c.args.nodes.now c.loop-node.node-index c.node-item.result c.loop-node-test.true (search rules) in
    omega (arith, small)
