use Rattle.std.proofs.Common.{refl, ap, arith}
use Rattle.es_base.specs.Preorder.{nodes, nodes_of_part, preorder, preorder_of, preorder_of_part}
use Rattle.es_base.specs.Tree.{trees, nullable, nullable_trees}
use Rattle.es_node.specs.View.{part_of, parts_of}
use Rattle.es_node.proofs.Below.{part_below, tree_below, hole_below}
use Rattle.program_names.proofs.Collected.{walked}
use Rattle.program_names.proofs.collect.+collect.Goals as goal

pub collect_parts-collect_part-requires : goal.collect_parts-collect_part-requires
collect_parts-collect_part-requires t c = (omega (arith, part_below c.args.parts.now c.loop-part.part-index c.part-item.result c.loop-part-test.true, ap (λ p. nodes_of_part (part_of p)) c.part-item.is, c.decreases), tt)

pub collect_list-collect_node-requires : goal.collect_list-collect_node-requires
collect_list-collect_node-requires t c = (omega (arith, tree_below c.args.nodes.now c.loop-node.node-index c.node-item.result c.loop-node-test.true, ap nodes c.node-item.is, c.decreases), tt)

pub collect_list_with_holes-collect_hole-requires : goal.collect_list_with_holes-collect_hole-requires
collect_list_with_holes-collect_hole-requires t c = (omega (arith, hole_below c.args.nodes.now c.loop-node.node-index c.node-item.result c.loop-node-test.true, ap (λ n. nodes_of_part (nullable n)) c.node-item.is, c.decreases), tt)

pub collect_list-loop-node-preserved : goal.collect_list-loop-node-preserved
collect_list-loop-node-preserved t c = walked preorder (λ ts. preorder_of (trees ts)) (λ x xs. refl) c.args.nodes.now c.loop-node.node-index c.node-item.result c.loop-node.taken c.collect_node.new.taken _ c.loop-node-test.true c.node-item.is c.loop-node.invariant c.in_ok-collect_node.ensures

pub collect_list_with_holes-loop-node-preserved : goal.collect_list_with_holes-loop-node-preserved
collect_list_with_holes-loop-node-preserved t c = walked (λ n. preorder_of_part (nullable n)) (λ ns. preorder_of (nullable_trees ns)) (λ x xs. refl) c.args.nodes.now c.loop-node.node-index c.node-item.result c.loop-node.taken c.collect_hole.new.taken _ c.loop-node-test.true c.node-item.is c.loop-node.invariant c.in_ok-collect_hole.ensures

pub collect_parts-loop-part-preserved : goal.collect_parts-loop-part-preserved
collect_parts-loop-part-preserved t c = walked (λ p. preorder_of_part (part_of p)) (λ ps. preorder_of (parts_of ps)) (λ x xs. refl) c.args.parts.now c.loop-part.part-index c.part-item.result c.loop-part.taken c.collect_part.new.taken _ c.loop-part-test.true c.part-item.is c.loop-part.invariant c.in_ok-collect_part.ensures
