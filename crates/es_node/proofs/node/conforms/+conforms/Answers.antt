use Rattle.std.proofs.Common.{◌≡◌, arith, ap, ◌∙◌, get_or}
use Rattle.es_base.specs.Preorder.{nodes, nodes_of_part}
use Rattle.es_base.specs.Tree.{nullable}
use Rattle.es_node.specs.View.{part_of, has_shape}
use Rattle.es_node.proofs.Below.{part_below, tree_below, hole_below}
use Rattle.es_node.proofs.Shapes.{member_shape}
use Rattle.es_node.proofs.node.conforms.+conforms.Goals as goal

pub parts_conform-part_conforms-requires : goal.parts_conform-part_conforms-requires
parts_conform-part_conforms-requires t c =
    let part = c.index-parts-i.result in
    let same : nodes_of_part (part_of part) ≡ nodes_of_part (part_of (get_or c.args.parts.now c.loop-i.i part)) = ap (λ p. nodes_of_part (part_of p)) c.index-parts-i.is in
    let below = part_below c.args.parts.now c.loop-i.i part c.loop-i-test.true in
    (omega (arith, below, same, c.decreases), ap (has_shape _) c.index-parts-i.is ∙ member_shape c.args.members.now c.args.parts.now c.loop-i.i _ part c.loop-i-test.true c.requires)

pub items_conform-node_conforms-requires : goal.items_conform-node_conforms-requires
items_conform-node_conforms-requires t c =
    let node = c.index-nodes-i.result in
    let same : nodes node ≡ nodes (get_or c.args.nodes.now c.loop-i.i node) = ap nodes c.index-nodes-i.is in
    let below = tree_below c.args.nodes.now c.loop-i.i node c.loop-i-test.true in
    (omega (arith, below, same, c.decreases), tt)

pub items_or_holes_conform-item_conforms-requires : goal.items_or_holes_conform-item_conforms-requires
items_or_holes_conform-item_conforms-requires t c =
    let node = c.index-nodes-i.result in
    let same : nodes_of_part (nullable node) ≡ nodes_of_part (nullable (get_or c.args.nodes.now c.loop-i.i node)) = ap (λ p. nodes_of_part (nullable p)) c.index-nodes-i.is in
    let below = hole_below c.args.nodes.now c.loop-i.i node c.loop-i-test.true in
    (omega (arith, below, same, c.decreases), tt)
