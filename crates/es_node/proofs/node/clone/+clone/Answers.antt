use Rattle.std.proofs.Common.{◌≡◌, arith, ap, get_or}
use Rattle.es_base.specs.Preorder.{nodes, nodes_of_part}
use Rattle.es_base.specs.Tree.{nullable}
use Rattle.es_node.specs.View.{part_of}
use Rattle.es_node.proofs.Below.{part_below, tree_below, hole_below}
use Rattle.es_node.proofs.node.clone.+clone.Goals as goal

pub clone_parts-clone_part-requires : goal.clone_parts-clone_part-requires
clone_parts-clone_part-requires t c =
    let part = c.part-item.result in
    let same : nodes_of_part (part_of part) ≡ nodes_of_part (part_of (get_or c.args.parts.now c.loop-part.part-index part)) = ap (λ p. nodes_of_part (part_of p)) c.part-item.is in
    let below = part_below c.args.parts.now c.loop-part.part-index part c.loop-part-test.true in
    (omega (arith, below, same, c.decreases), tt)

pub clone_list-clone_node-requires : goal.clone_list-clone_node-requires
clone_list-clone_node-requires t c =
    let node = c.node-item.result in
    let same : nodes node ≡ nodes (get_or c.args.nodes.now c.loop-node.node-index node) = ap nodes c.node-item.is in
    let below = tree_below c.args.nodes.now c.loop-node.node-index node c.loop-node-test.true in
    (omega (arith, below, same, c.decreases), tt)

pub clone_list_with_holes-clone_hole-requires : goal.clone_list_with_holes-clone_hole-requires
clone_list_with_holes-clone_hole-requires t c =
    let node = c.node-item.result in
    let same : nodes_of_part (nullable node) ≡ nodes_of_part (nullable (get_or c.args.nodes.now c.loop-node.node-index node)) = ap (λ p. nodes_of_part (nullable p)) c.node-item.is in
    let below = hole_below c.args.nodes.now c.loop-node.node-index node c.loop-node-test.true in
    (omega (arith, below, same, c.decreases), tt)
