use Rattle.std.proofs.Common.{◌≡◌, refl, sym, ap, ◌∙◌, get_or, arith}
use Rattle.es_base.specs.Preorder.{nodes, nodes_of, nodes_of_part}
use Rattle.es_base.specs.Table.{members_of}
use Rattle.es_base.specs.Tree.{child, trees, nullable, nullable_trees}
use Rattle.es_node.specs.View.{part_of, parts_of, parts_in, have_shapes}
use Rattle.es_node.proofs.Below.{nodes_in, part_below, tree_below, hole_below}
use Rattle.es_scopes.specs.Entries.{Collected, collected, collected_parts, collected_part, collected_items}
use Rattle.es_scopes.specs.Surroundings.{inside}
use Rattle.es_scopes_build.proofs.WalkLemmas.{step, item_room, few_in_part, collected_from, next_entered, IfOk-map}
use Rattle.es_scopes_build.proofs.collect.+collect.Goals as goal

pub collect_list-collect_node-requires : goal.collect_list-collect_node-requires
collect_list-collect_node-requires t c =
    let node = c.index-nodes-i.result in
    let around = c.args.around in
    let start : Collected = record { entries = c.args.entries.now; next = c.args.next } in
    let before : Collected = record { entries = c.loop-i.entries; next = c.loop-i.next } in
    let same : nodes node ≡ nodes (get_or c.args.nodes.now c.loop-i.i node) = ap nodes c.index-nodes-i.is in
    let below = tree_below c.args.nodes.now c.loop-i.i node c.loop-i-test.true in
    let room = item_room trees child (λ x xs. refl) (λ i. collected_items around) (λ i. collected_part around) (λ i c q qs. refl) (λ i c q. few_in_part around c q) start c.args.nodes.now c.loop-i.i before node c.loop-i-test.true c.loop-i.invariant in
    (omega (arith, below, same, c.decreases), omega (arith, room, same, c.requires))

pub collect_list-loop-i-preserved : goal.collect_list-loop-i-preserved
collect_list-loop-i-preserved t c =
    let node = c.index-nodes-i.result in
    let around = c.args.around in
    let start : Collected = record { entries = c.args.entries.now; next = c.args.next } in
    let before : Collected = record { entries = c.loop-i.entries; next = c.loop-i.next } in
    let after : Collected = record { entries = c.collect_node.new.entries; next = c.in_ok-next.next } in
    step trees child (λ x xs. refl) (λ i. collected_items around) (λ i. collected_part around) (λ i c q qs. refl) (λ i c q. few_in_part around c q) start c.args.nodes.now c.loop-i.i before after node c.loop-i-test.true (c.in_ok-next.ensures ∙ ap (collected around before) c.index-nodes-i.is) c.loop-i.invariant

pub collect_list_with_holes-collect_hole-requires : goal.collect_list_with_holes-collect_hole-requires
collect_list_with_holes-collect_hole-requires t c =
    let node = c.index-nodes-i.result in
    let around = c.args.around in
    let start : Collected = record { entries = c.args.entries.now; next = c.args.next } in
    let before : Collected = record { entries = c.loop-i.entries; next = c.loop-i.next } in
    let same : nodes_of_part (nullable node) ≡ nodes_of_part (nullable (get_or c.args.nodes.now c.loop-i.i node)) = ap (λ p. nodes_of_part (nullable p)) c.index-nodes-i.is in
    let below = hole_below c.args.nodes.now c.loop-i.i node c.loop-i-test.true in
    let room = item_room nullable_trees nullable (λ x xs. refl) (λ i. collected_items around) (λ i. collected_part around) (λ i c q qs. refl) (λ i c q. few_in_part around c q) start c.args.nodes.now c.loop-i.i before node c.loop-i-test.true c.loop-i.invariant in
    (omega (arith, below, same, c.decreases), omega (arith, room, same, c.requires))

pub collect_list_with_holes-loop-i-preserved : goal.collect_list_with_holes-loop-i-preserved
collect_list_with_holes-loop-i-preserved t c =
    let node = c.index-nodes-i.result in
    let around = c.args.around in
    let start : Collected = record { entries = c.args.entries.now; next = c.args.next } in
    let before : Collected = record { entries = c.loop-i.entries; next = c.loop-i.next } in
    let after : Collected = record { entries = c.collect_hole.new.entries; next = c.in_ok-next.next } in
    step nullable_trees nullable (λ x xs. refl) (λ i. collected_items around) (λ i. collected_part around) (λ i c q qs. refl) (λ i c q. few_in_part around c q) start c.args.nodes.now c.loop-i.i before after node c.loop-i-test.true (c.in_ok-next.ensures ∙ ap (λ x. collected_part around before (nullable x)) c.index-nodes-i.is) c.loop-i.invariant

pub collect_parts-collect_part-requires : goal.collect_parts-collect_part-requires
collect_parts-collect_part-requires t c =
    let part = c.index-parts-i.result in
    let f = inside c.args.parent.kind c.args.parent.own (parts_of c.args.parts.now) c.args.parent.around in
    let start : Collected = record { entries = c.args.entries.now; next = c.args.next } in
    let before : Collected = record { entries = c.loop-i.entries; next = c.loop-i.next } in
    let same : nodes_of_part (part_of part) ≡ nodes_of_part (part_of (get_or c.args.parts.now c.loop-i.i part)) = ap (λ p. nodes_of_part (part_of p)) c.index-parts-i.is in
    let below = part_below c.args.parts.now c.loop-i.i part c.loop-i-test.true in
    let room = item_room parts_of part_of (λ x xs. refl) (collected_parts f) (λ i. collected_part (f i)) (λ i c q qs. refl) (λ i c q. few_in_part (f i) c q) start c.args.parts.now c.loop-i.i before part c.loop-i-test.true c.loop-i.invariant in
    (omega (arith, below, same, c.decreases), omega (arith, room, same, c.requires.room))

pub collect_parts-loop-i-preserved : goal.collect_parts-loop-i-preserved
collect_parts-loop-i-preserved t c =
    let part = c.index-parts-i.result in
    let f = inside c.args.parent.kind c.args.parent.own (parts_of c.args.parts.now) c.args.parent.around in
    let start : Collected = record { entries = c.args.entries.now; next = c.args.next } in
    let before : Collected = record { entries = c.loop-i.entries; next = c.loop-i.next } in
    let after : Collected = record { entries = c.collect_part.new.entries; next = c.in_ok-next.next } in
    step parts_of part_of (λ x xs. refl) (collected_parts f) (λ i. collected_part (f i)) (λ i c q qs. refl) (λ i c q. few_in_part (f i) c q) start c.args.parts.now c.loop-i.i before after part c.loop-i-test.true
    (c.in_ok-next.ensures ∙ ap (λ s. collected_part s before (part_of part)) c.inside.ensures ∙ ap (λ p. collected_part (f c.loop-i.i) before (part_of p)) c.index-parts-i.is) c.loop-i.invariant

pub collect_node-returns : goal.collect_node-returns
collect_node-returns t c =
    IfOk-map c.collect_parts.result _ _ (λ n is. is ∙ collected_from c.args.around (record { entries = c.args.entries.now; next = c.args.next }) (record { entries = c.enter.new.entries; next = c.in_ok-next.next }) c.args.node.now c.kind-kind.result c.node_id.result (parts_of c.parts-parts.result.now) c.kind-kind.ensures c.node_id.ensures c.parts-parts.ensures.list c.in_ok-next.ensures) c.collect_parts.ensures

pub collect_node-collect_parts-requires : goal.collect_node-collect_parts-requires
collect_node-collect_parts-requires t c =
    let before : Collected = record { entries = c.args.entries.now; next = c.args.next } in
    let inner : Collected = record { entries = c.enter.new.entries; next = c.in_ok-next.next } in
    let same : nodes_of (parts_of c.parts-parts.result.now) ≡ nodes_of (parts_in c.args.node.now) = ap nodes_of (sym c.parts-parts.ensures.list) in
    let size = nodes_in c.args.node.now in
    let next = next_entered c.args.around before inner c.kind-kind.result c.node_id.result (parts_of c.parts-parts.result.now) c.in_ok-next.ensures in
    (omega (arith, same, size, c.decreases), (ap (λ k. have_shapes (members_of k) c.parts-parts.result.now) c.kind-kind.ensures ∙ c.parts-parts.ensures.shapes, (c.is_strict-strict.ensures, omega (arith, same, size, next, c.requires))))
