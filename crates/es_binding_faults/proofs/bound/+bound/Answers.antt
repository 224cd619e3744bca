use Rattle.std.proofs.Common.{◌≡◌, ◌∙◌, sym, refl, ◌+◌, ◌<◌, ◌++◌, [], length, map, drop, cond, arith, ap, get_or}
use Rattle.es_base.specs.Preorder.{nodes, nodes_of, nodes_of_part}
use Rattle.es_base.specs.Table.{field_of, members_of}
use Rattle.es_base.specs.Tree.{nullable, trees, nullable_trees}
use Rattle.es_node.proofs.Below.{nodes_in, part_below, tree_below, hole_below}
use Rattle.es_node.specs.View.{part_of, parts_of, parts_in, have_shapes}
use Rattle.es_steps.specs.Scopes.{no_class, binds, bound_names, bound_members, bound_part, bound_items}
use Rattle.es_binding_faults.proofs.Appending.{appended, appended_at, appended_all, OnOk-map}
use Rattle.es_binding_faults.proofs.Bindings.{any_member, bound_here, bound_below, next_member}
use Rattle.es_binding_faults.specs.Named.{named}
use Rattle.es_binding_faults.proofs.bound.+bound.Goals as goal

pub add_bound_list-add_bound-requires : goal.add_bound_list-add_bound-requires
add_bound_list-add_bound-requires t c =
    let item = c.node-item.result in
    let same : nodes item ≡ nodes (get_or c.args.nodes.now c.loop-node.node-index item) = ap nodes c.node-item.is in
    let below = tree_below c.args.nodes.now c.loop-node.node-index item c.loop-node-test.true in
    (omega (arith, below, same, c.decreases), tt)

pub add_bound_list-loop-node-preserved : goal.add_bound_list-loop-node-preserved
add_bound_list-loop-node-preserved t c = appended (λ i xs. bound_items no_class (trees xs)) (λ i u. bound_names no_class u) (λ i x xs. refl) (named c.loop-node.names.items) (named c.add_bound.new.names.items) _ c.args.nodes.now c.loop-node.node-index c.node-item.result c.loop-node-test.true c.node-item.is c.in_ok-add_bound.ensures c.loop-node.invariant

pub add_bound_list-returns : goal.add_bound_list-returns
add_bound_list-returns t c = appended_all (λ i xs. bound_items no_class (trees xs)) (named c.loop-node.names.items) _ c.args.nodes.now c.loop-node.node-index (λ k. refl) c.loop-node-test.false c.loop-node.invariant

pub add_bound_list_with_holes-add_bound_hole-requires : goal.add_bound_list_with_holes-add_bound_hole-requires
add_bound_list_with_holes-add_bound_hole-requires t c =
    let item = c.node-item.result in
    let same : nodes_of_part (nullable item) ≡ nodes_of_part (nullable (get_or c.args.nodes.now c.loop-node.node-index item)) = ap (λ p. nodes_of_part (nullable p)) c.node-item.is in
    let below = hole_below c.args.nodes.now c.loop-node.node-index item c.loop-node-test.true in
    (omega (arith, below, same, c.decreases), tt)

pub add_bound_list_with_holes-loop-node-preserved : goal.add_bound_list_with_holes-loop-node-preserved
add_bound_list_with_holes-loop-node-preserved t c = appended (λ i xs. bound_items no_class (nullable_trees xs)) (λ i u. bound_part no_class (nullable u)) (λ i x xs. refl) (named c.loop-node.names.items) (named c.add_bound_hole.new.names.items) _ c.args.nodes.now c.loop-node.node-index c.node-item.result c.loop-node-test.true c.node-item.is c.in_ok-add_bound_hole.ensures c.loop-node.invariant

pub add_bound_list_with_holes-returns : goal.add_bound_list_with_holes-returns
add_bound_list_with_holes-returns t c = appended_all (λ i xs. bound_items no_class (nullable_trees xs)) (named c.loop-node.names.items) _ c.args.nodes.now c.loop-node.node-index (λ k. refl) c.loop-node-test.false c.loop-node.invariant

pub add_bound_members-add_bound_member-requires : goal.add_bound_members-add_bound_member-requires
add_bound_members-add_bound_member-requires t c =
    let part = c.index-parts-i.result in
    let same : nodes_of_part (part_of part) ≡ nodes_of_part (part_of (get_or c.args.parts.now c.loop-i.i part)) = ap (λ p. nodes_of_part (part_of p)) c.index-parts-i.is in
    let below = part_below c.args.parts.now c.loop-i.i part c.loop-i-test.true in
    (omega (arith, below, same, c.decreases), tt)

pub add_bound_members-loop-i-preserved : goal.add_bound_members-loop-i-preserved
add_bound_members-loop-i-preserved t c =
    let ms = c.args.members.now in
    let ps = c.args.parts.now in
    let i = c.loop-i.i in
    let within : i < length ms = omega (arith, c.loop-i.invariant.0, c.loop-i-test.true) in (
      c.loop-i.invariant.0,
      appended_at (λ k xs. bound_members no_class (map field_of (drop k ms)) (parts_of xs)) (λ k p. cond (binds (get_or ms k any_member).sort) (bound_part no_class (part_of p)) [])
          (named c.loop-i.names.items) (named c.add_bound_member.new.names.items) _ ps i c.index-parts-i.result c.loop-i-test.true c.index-parts-i.is
          (next_member ms i any_member (part_of (get_or ps i c.index-parts-i.result)) (parts_of (drop (i + 1) ps)) within) c.in_ok-add_bound_member.ensures c.loop-i.invariant.1,
    )

pub add_bound_members-returns : goal.add_bound_members-returns
add_bound_members-returns t c =
    let ms = c.args.members.now in
    appended_all (λ k xs. bound_members no_class (map field_of (drop k ms)) (parts_of xs)) (named c.loop-i.names.items) _ c.args.parts.now c.loop-i.i (λ k. refl) c.loop-i-test.false c.loop-i.invariant.1

pub add_bound-add_bound_members-requires : goal.add_bound-add_bound_members-requires
add_bound-add_bound_members-requires t c =
    (omega (arith, nodes_in c.args.node.now, ap nodes_of c.parts.ensures.list, c.decreases), ap (λ fs. have_shapes fs c.parts.result.now) (c.members.ensures ∙ ap members_of c.kind.ensures) ∙ c.parts.ensures.shapes)

pub add_bound-returns-then-is_binding_identifier : goal.add_bound-returns-then-is_binding_identifier
add_bound-returns-then-is_binding_identifier t c =
    OnOk-map c.add_identifier.result _ _ (λ e. e ∙ ap (λ ds. named c.args.names.now.items ++ ds) (sym (bound_here c.args.node.now (sym c.if-is_binding_identifier.ensures)))) c.add_identifier.ensures

pub add_bound-returns-else-is_binding_identifier : goal.add_bound-returns-else-is_binding_identifier
add_bound-returns-else-is_binding_identifier t c =
    let is : bound_names no_class c.args.node.now ≡ bound_members no_class (map field_of c.members.result.now) (parts_of c.parts.result.now) =
    bound_below c.args.node.now (sym c.if-is_binding_identifier.ensures)
    ∙ ap (λ fs. bound_members no_class fs (parts_in c.args.node.now)) (sym (c.members.ensures ∙ ap members_of c.kind.ensures))
    ∙ ap (λ ps. bound_members no_class (map field_of c.members.result.now) ps) c.parts.ensures.list in
    OnOk-map c.add_bound_members.result _ _ (λ e. e ∙ ap (λ ds. named c.args.names.now.items ++ ds) (sym is)) c.add_bound_members.ensures
