use Rattle.std.proofs.Common.{◌≡◌, ◌∙◌, sym, refl, ◌++◌, arith, ap, get_or}
use Rattle.es_base.specs.Preorder.{nodes, nodes_of, nodes_of_part, preorder, preorder_of, preorder_of_part}
use Rattle.es_base.specs.Tree.{nullable, trees, nullable_trees}
use Rattle.es_node.proofs.Below.{nodes_in, part_below, tree_below, hole_below}
use Rattle.es_node.specs.View.{part_of, parts_of}
use Rattle.es_binding_faults.proofs.Appending.{appended, appended_all, OnOk-map}
use Rattle.es_binding_faults.proofs.Seen.{node_seen}
use Rattle.es_binding_faults.specs.Seen.{seen}
use Rattle.es_binding_faults.proofs.preorder.+preorder.Goals as goal

pub add_parts-add_part-requires : goal.add_parts-add_part-requires
add_parts-add_part-requires t c =
    let part = c.part-item.result in
    let same : nodes_of_part (part_of part) ≡ nodes_of_part (part_of (get_or c.args.parts.now c.loop-part.part-index part)) = ap (λ p. nodes_of_part (part_of p)) c.part-item.is in
    let below = part_below c.args.parts.now c.loop-part.part-index part c.loop-part-test.true in
    (omega (arith, below, same, c.decreases), tt)

pub add_parts-loop-part-preserved : goal.add_parts-loop-part-preserved
add_parts-loop-part-preserved t c = appended (λ i xs. preorder_of (parts_of xs)) (λ i p. preorder_of_part (part_of p)) (λ i x xs. refl) (seen c.loop-part.nodes.items) (seen c.add_part.new.nodes.items) _ c.args.parts.now c.loop-part.part-index c.part-item.result c.loop-part-test.true c.part-item.is c.in_ok-add_part.ensures c.loop-part.invariant

pub add_parts-returns : goal.add_parts-returns
add_parts-returns t c = appended_all (λ i xs. preorder_of (parts_of xs)) (seen c.loop-part.nodes.items) _ c.args.parts.now c.loop-part.part-index (λ k. refl) c.loop-part-test.false c.loop-part.invariant

pub add_list-add_node-requires : goal.add_list-add_node-requires
add_list-add_node-requires t c =
    let item = c.item-item.result in
    let same : nodes item ≡ nodes (get_or c.args.items.now c.loop-item.item-index item) = ap nodes c.item-item.is in
    let below = tree_below c.args.items.now c.loop-item.item-index item c.loop-item-test.true in
    (omega (arith, below, same, c.decreases), tt)

pub add_list-loop-item-preserved : goal.add_list-loop-item-preserved
add_list-loop-item-preserved t c = appended (λ i xs. preorder_of (trees xs)) (λ i u. preorder u) (λ i x xs. refl) (seen c.loop-item.nodes.items) (seen c.add_node.new.nodes.items) _ c.args.items.now c.loop-item.item-index c.item-item.result c.loop-item-test.true c.item-item.is c.in_ok-add_node.ensures c.loop-item.invariant

pub add_list-returns : goal.add_list-returns
add_list-returns t c = appended_all (λ i xs. preorder_of (trees xs)) (seen c.loop-item.nodes.items) _ c.args.items.now c.loop-item.item-index (λ k. refl) c.loop-item-test.false c.loop-item.invariant

pub add_list_with_holes-add_hole-requires : goal.add_list_with_holes-add_hole-requires
add_list_with_holes-add_hole-requires t c =
    let item = c.item-item.result in
    let same : nodes_of_part (nullable item) ≡ nodes_of_part (nullable (get_or c.args.items.now c.loop-item.item-index item)) = ap (λ p. nodes_of_part (nullable p)) c.item-item.is in
    let below = hole_below c.args.items.now c.loop-item.item-index item c.loop-item-test.true in
    (omega (arith, below, same, c.decreases), tt)

pub add_list_with_holes-loop-item-preserved : goal.add_list_with_holes-loop-item-preserved
add_list_with_holes-loop-item-preserved t c = appended (λ i xs. preorder_of (nullable_trees xs)) (λ i u. preorder_of_part (nullable u)) (λ i x xs. refl) (seen c.loop-item.nodes.items) (seen c.add_hole.new.nodes.items) _ c.args.items.now c.loop-item.item-index c.item-item.result c.loop-item-test.true c.item-item.is c.in_ok-add_hole.ensures c.loop-item.invariant

pub add_list_with_holes-returns : goal.add_list_with_holes-returns
add_list_with_holes-returns t c = appended_all (λ i xs. preorder_of (nullable_trees xs)) (seen c.loop-item.nodes.items) _ c.args.items.now c.loop-item.item-index (λ k. refl) c.loop-item-test.false c.loop-item.invariant

pub add_node-add_parts-requires : goal.add_node-add_parts-requires
add_node-add_parts-requires t c = (omega (arith, nodes_in c.args.node.now, ap nodes_of c.parts.ensures.list, c.decreases), tt)

pub add_node-returns : goal.add_node-returns
add_node-returns t c = OnOk-map c.add_parts.result _ _ (λ e. node_seen c.args.nodes.now.items c.push.new.self.items c.add_parts.new.nodes.items c.args.node c.in_ok-push.ensures.items (e ∙ ap (λ ps. seen c.push.new.self.items ++ preorder_of ps) (sym c.parts.ensures.list))) c.add_parts.ensures
