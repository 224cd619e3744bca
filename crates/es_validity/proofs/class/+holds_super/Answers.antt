use Rattle.std.proofs.Common.{◌≡◌, arith, ap, get_or}
use Rattle.es_base.specs.Preorder.{nodes, nodes_of_part}
use Rattle.es_base.specs.Tree.{nullable}
use Rattle.es_node.specs.View.{part_of}
use Rattle.es_node.proofs.Below.{part_below, tree_below, hole_below}
use Rattle.es_validity.proofs.class.+holds_super.Goals as goal

pub parts_hold_super-part_holds_super-requires : goal.parts_hold_super-part_holds_super-requires
parts_hold_super-part_holds_super-requires t c =
    let part = c.part-item.result in
    let same : nodes_of_part (part_of part) ≡ nodes_of_part (part_of (get_or c.args.parts.now c.loop-part.part-index part)) = ap (λ p. nodes_of_part (part_of p)) c.part-item.is in
    let below = part_below c.args.parts.now c.loop-part.part-index part c.loop-part-test.true in
    (omega (arith, below, same, c.decreases), tt)

pub list_holds_super-node_holds_super-requires : goal.list_holds_super-node_holds_super-requires
list_holds_super-node_holds_super-requires t c =
    let node = c.node-item.result in
    let same : nodes node ≡ nodes (get_or c.args.nodes.now c.loop-node.node-index node) = ap nodes c.node-item.is in
    let below = tree_below c.args.nodes.now c.loop-node.node-index node c.loop-node-test.true in
    (omega (arith, below, same, c.decreases), tt)

pub list_with_holes_holds_super-hole_holds_super-requires : goal.list_with_holes_holds_super-hole_holds_super-requires
list_with_holes_holds_super-hole_holds_super-requires t c =
    let node = c.node-item.result in
    let same : nodes_of_part (nullable node) ≡ nodes_of_part (nullable (get_or c.args.nodes.now c.loop-node.node-index node)) = ap (λ n. nodes_of_part (nullable n)) c.node-item.is in
    let below = hole_below c.args.nodes.now c.loop-node.node-index node c.loop-node-test.true in
    (omega (arith, below, same, c.decreases), tt)
