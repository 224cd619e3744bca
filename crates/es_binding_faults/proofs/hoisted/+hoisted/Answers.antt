use Rattle.std.proofs.Common.{◌≡◌, ◌∙◌, sym, ◌++◌, cond, arith, ap, get_or}
use Rattle.es_base.specs.Preorder.{nodes, nodes_of, nodes_of_part}
use Rattle.es_base.specs.Tree.{child, nullable, trees, nullable_trees}
use Rattle.es_node.proofs.Below.{nodes_in, part_below, tree_below, hole_below}
use Rattle.es_node.specs.View.{part_of, parts_of, parts_in}
use Rattle.es_steps.specs.Scopes.{statement_form}
use Rattle.es_binding_faults.proofs.Appending.{appended, appended_all, OnOk-map}
use Rattle.es_binding_faults.proofs.Hoisting.{hoisted_is, hoisted_one, hoisted_none}
use Rattle.es_binding_faults.specs.Hoisted.{hoisted, hoisted_part, hoisted_items, own}
use Rattle.es_binding_faults.specs.Named.{named}
use Rattle.es_binding_faults.proofs.hoisted.+hoisted.Goals as goal

pub add_hoisted_parts-add_hoisted_part-requires : goal.add_hoisted_parts-add_hoisted_part-requires
add_hoisted_parts-add_hoisted_part-requires t c =
    let item = c.part-item.result in
    let same : nodes_of_part (part_of item) ≡ nodes_of_part (part_of (get_or c.args.parts.now c.loop-part.part-index item)) = ap (λ p. nodes_of_part (part_of p)) c.part-item.is in
    let below = part_below c.args.parts.now c.loop-part.part-index item c.loop-part-test.true in
    (omega (arith, below, same, c.decreases), tt)

pub add_hoisted_parts-loop-part-preserved : goal.add_hoisted_parts-loop-part-preserved
add_hoisted_parts-loop-part-preserved t c = appended (λ i xs. hoisted_items c.args.hoist (parts_of xs)) (λ i u. hoisted_part c.args.hoist (part_of u)) (λ i x xs. hoisted_one c.args.hoist (part_of x) (parts_of xs)) (named c.loop-part.names.items) (named c.add_hoisted_part.new.names.items) _ c.args.parts.now c.loop-part.part-index c.part-item.result c.loop-part-test.true c.part-item.is c.in_ok-add_hoisted_part.ensures c.loop-part.invariant

pub add_hoisted_parts-returns : goal.add_hoisted_parts-returns
add_hoisted_parts-returns t c = appended_all (λ i xs. hoisted_items c.args.hoist (parts_of xs)) (named c.loop-part.names.items) _ c.args.parts.now c.loop-part.part-index (λ k. hoisted_none c.args.hoist) c.loop-part-test.false c.loop-part.invariant

pub add_hoisted_list-add_hoisted-requires : goal.add_hoisted_list-add_hoisted-requires
add_hoisted_list-add_hoisted-requires t c =
    let item = c.node-item.result in
    let same : nodes item ≡ nodes (get_or c.args.nodes.now c.loop-node.node-index item) = ap nodes c.node-item.is in
    let below = tree_below c.args.nodes.now c.loop-node.node-index item c.loop-node-test.true in
    (omega (arith, below, same, c.decreases), tt)

pub add_hoisted_list-loop-node-preserved : goal.add_hoisted_list-loop-node-preserved
add_hoisted_list-loop-node-preserved t c = appended (λ i xs. hoisted_items c.args.hoist (trees xs)) (λ i u. hoisted_part c.args.hoist (child u)) (λ i x xs. hoisted_one c.args.hoist (child x) (trees xs)) (named c.loop-node.names.items) (named c.add_hoisted.new.names.items) _ c.args.nodes.now c.loop-node.node-index c.node-item.result c.loop-node-test.true c.node-item.is c.in_ok-add_hoisted.ensures c.loop-node.invariant

pub add_hoisted_list-returns : goal.add_hoisted_list-returns
add_hoisted_list-returns t c = appended_all (λ i xs. hoisted_items c.args.hoist (trees xs)) (named c.loop-node.names.items) _ c.args.nodes.now c.loop-node.node-index (λ k. hoisted_none c.args.hoist) c.loop-node-test.false c.loop-node.invariant

pub add_hoisted_list_with_holes-add_hoisted_hole-requires : goal.add_hoisted_list_with_holes-add_hoisted_hole-requires
add_hoisted_list_with_holes-add_hoisted_hole-requires t c =
    let item = c.node-item.result in
    let same : nodes_of_part (nullable item) ≡ nodes_of_part (nullable (get_or c.args.nodes.now c.loop-node.node-index item)) = ap (λ p. nodes_of_part (nullable p)) c.node-item.is in
    let below = hole_below c.args.nodes.now c.loop-node.node-index item c.loop-node-test.true in
    (omega (arith, below, same, c.decreases), tt)

pub add_hoisted_list_with_holes-loop-node-preserved : goal.add_hoisted_list_with_holes-loop-node-preserved
add_hoisted_list_with_holes-loop-node-preserved t c = appended (λ i xs. hoisted_items c.args.hoist (nullable_trees xs)) (λ i u. hoisted_part c.args.hoist (nullable u)) (λ i x xs. hoisted_one c.args.hoist (nullable x) (nullable_trees xs)) (named c.loop-node.names.items) (named c.add_hoisted_hole.new.names.items) _ c.args.nodes.now c.loop-node.node-index c.node-item.result c.loop-node-test.true c.node-item.is c.in_ok-add_hoisted_hole.ensures c.loop-node.invariant

pub add_hoisted_list_with_holes-returns : goal.add_hoisted_list_with_holes-returns
add_hoisted_list_with_holes-returns t c = appended_all (λ i xs. hoisted_items c.args.hoist (nullable_trees xs)) (named c.loop-node.names.items) _ c.args.nodes.now c.loop-node.node-index (λ k. hoisted_none c.args.hoist) c.loop-node-test.false c.loop-node.invariant

pub add_hoisted-add_hoisted_parts-requires : goal.add_hoisted-add_hoisted_parts-requires
add_hoisted-add_hoisted_parts-requires t c = (omega (arith, nodes_in c.args.node.now, ap nodes_of c.parts.ensures.list, c.decreases), tt)

pub add_hoisted-returns-then-descends : goal.add_hoisted-returns-then-descends
add_hoisted-returns-then-descends t c =
    let h = c.args.hoist in
    let u = c.args.node.now in
    let form = c.statement_form-form.result in
    let is : hoisted h u ≡ hoisted_items h (parts_of c.parts.result.now) =
    hoisted_is h u form (c.statement_form-form.ensures ∙ ap statement_form c.kind.ensures)
    ∙ ap (λ b. cond b (hoisted_items h (parts_in u)) (own h form (parts_in u))) (sym c.if-descends.ensures)
    ∙ ap (hoisted_items h) c.parts.ensures.list in
    OnOk-map c.add_hoisted_parts.result _ _ (λ e. e ∙ ap (λ ds. named c.args.names.now.items ++ ds) (sym is)) c.add_hoisted_parts.ensures

pub add_hoisted-returns-else-descends : goal.add_hoisted-returns-else-descends
add_hoisted-returns-else-descends t c =
    let h = c.args.hoist in
    let u = c.args.node.now in
    let form = c.statement_form-form.result in
    let is : hoisted h u ≡ own h form (parts_of c.parts-else-descends.result.now) =
    hoisted_is h u form (c.statement_form-form.ensures ∙ ap statement_form c.kind.ensures)
    ∙ ap (λ b. cond b (hoisted_items h (parts_in u)) (own h form (parts_in u))) (sym c.if-descends.ensures)
    ∙ ap (own h form) c.parts-else-descends.ensures.list in
    OnOk-map c.add_own.result _ _ (λ e. e ∙ ap (λ ds. named c.args.names.now.items ++ ds) (sym is)) c.add_own.ensures
