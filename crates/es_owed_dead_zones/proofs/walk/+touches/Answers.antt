use Rattle.std.proofs.Common.{ap, arith, cond, false, length, List, ℕ, refl, sym, true, ◌≡◌, ◌∙◌, ◌++◌, ◌<◌, ◌≤◌, []}
use Rattle.es_base.specs.Numbered.{is_new}
use Rattle.es_base.specs.Preorder.{nodes, nodes_of, nodes_of_part}
use Rattle.es_base.specs.Tree.{child, nullable, nullable_trees, trees}
use Rattle.es_base.specs.declared.kind.Kind.{Kind}
use Rattle.es_binding_faults.proofs.Appending.{OnOk-map, appended, appended_all, appended_twice}
use Rattle.es_lowered.specs.DeadZones.{Touch, converted, held_behind, in_no_chain, touch, touch_around}
use Rattle.es_lowered.specs.DeadZones as spec
use Rattle.es_lowered.specs.HelperCalls.{runs_with_class}
use Rattle.es_lowered.specs.Timely.{is_same}
use Rattle.es_node.proofs.Below.{part_below, tree_below, hole_below}
use Rattle.es_node.specs.View.{kind_of, number_in, part_of, parts_in, parts_of}
use Rattle.es_steps.specs.Repeated.{is_arrow}
use Rattle.es_owed_timely.specs.Walk.{parts_from}
use Rattle.es_owed_timely.proofs.WalkedMarks.{dropped}
use Rattle.es_owed_dead_zones.proofs.Walked.{appended_four, assigned_other_at, assigned_pattern_at, assigned_short, call_arrow, call_other, class_at, default_member_at, default_other_at, default_short, inner_other, joined_more, keyed_at, keys_more, keys_more_hole, turned_at, turned_only, value_at, values_more, values_more_hole}
use Rattle.es_touches.specs.Touches.{kept_touches}
use Rattle.es_owed_dead_zones.specs.Walk.{class_touches, if_tree, inner_touches, joined, key_touch, keyed, turned, key_touches, keys_touched, spot_at, spot_of, touches, touches_at, touches_from, touches_of, value_touch, value_touches, values_touched}
use Rattle.es_owed_dead_zones.proofs.walk.+touches.Goals as goal

pub add_of_parts-add_at-requires : goal.add_of_parts-add_at-requires
add_of_parts-add_at-requires t c = (omega (arith, part_below c.args.parts.now c.loop-part.part-index c.part-item.result c.loop-part-test.true, ap (λ p. nodes_of_part (part_of p)) c.part-item.is, c.decreases), tt)

pub add_of_list-add_touches-requires : goal.add_of_list-add_touches-requires
add_of_list-add_touches-requires t c = (omega (arith, tree_below c.args.nodes.now c.loop-node.node-index c.node-item.result c.loop-node-test.true, ap nodes c.node-item.is, c.decreases), tt)

pub add_of_list_with_holes-add_of_hole-requires : goal.add_of_list_with_holes-add_of_hole-requires
add_of_list_with_holes-add_of_hole-requires t c = (omega (arith, hole_below c.args.nodes.now c.loop-node.node-index c.node-item.result c.loop-node-test.true, ap (λ n. nodes_of_part (nullable n)) c.node-item.is, c.decreases), tt)

pub add_joined-add_converted-requires : goal.add_joined-add_converted-requires
add_joined-add_converted-requires t c = (omega (arith, tree_below c.args.expressions.now c.loop-expression.expression-index c.expression-item.result c.loop-expression-test.true, ap nodes c.expression-item.is, c.decreases), tt)

pub add_keys-add_key-requires : goal.add_keys-add_key-requires
add_keys-add_key-requires t c = (omega (arith, tree_below c.args.elements.now c.loop-element.element-index c.element-item.result c.loop-element-test.true, ap nodes c.element-item.is, c.decreases), tt)

pub add_keys_with_holes-add_key_of_hole-requires : goal.add_keys_with_holes-add_key_of_hole-requires
add_keys_with_holes-add_key_of_hole-requires t c = (omega (arith, hole_below c.args.elements.now c.loop-element.element-index c.element-item.result c.loop-element-test.true, ap (λ n. nodes_of_part (nullable n)) c.element-item.is, c.decreases), tt)

pub add_values-add_value-requires : goal.add_values-add_value-requires
add_values-add_value-requires t c = (omega (arith, tree_below c.args.elements.now c.loop-element.element-index c.element-item.result c.loop-element-test.true, ap nodes c.element-item.is, c.decreases), tt)

pub add_values_with_holes-add_value_of_hole-requires : goal.add_values_with_holes-add_value_of_hole-requires
add_values_with_holes-add_value_of_hole-requires t c = (omega (arith, hole_below c.args.elements.now c.loop-element.element-index c.element-item.result c.loop-element-test.true, ap (λ n. nodes_of_part (nullable n)) c.element-item.is, c.decreases), tt)

pub add_from-add_part-requires : goal.add_from-add_part-requires
add_from-add_part-requires t c = (omega (arith, part_below c.args.parts.now c.loop-i.i c.index-parts-i.result c.loop-i-test.true, ap (λ p. nodes_of_part (part_of p)) c.index-parts-i.is, c.decreases), tt)

pub add_from-loop-i-preserved : goal.add_from-loop-i-preserved
add_from-loop-i-preserved t c =
    let s = c.args.terms.now in
    let within = spot_at (spot_of c.args.spot.now) c.args.node.now in
    appended (λ k xs. touches_from s within k (parts_of xs)) (λ k p. touches_at s (within k) (part_of p)) (λ k p xs. refl)
    (kept_touches c.loop-i.touches.items) (kept_touches c.add_part.new.touches.items) _ c.args.parts.now c.loop-i.i c.index-parts-i.result c.loop-i-test.true c.index-parts-i.is c.in_ok-add_part.ensures c.loop-i.invariant

pub add_from-returns : goal.add_from-returns
add_from-returns t c =
    let s = c.args.terms.now in
    let within = spot_at (spot_of c.args.spot.now) c.args.node.now in
    let of = touches_from s within in
    appended_all (λ k xs. of k (parts_of xs)) (kept_touches c.loop-i.touches.items) _ c.args.parts.now c.loop-i.i (λ k. refl) c.loop-i-test.false c.loop-i.invariant
    ∙ ap (λ ps. kept_touches c.args.touches.now.items ++ of c.args.from ps) (dropped c.args.parts.now c.args.from)

pub add_of_parts-loop-part-preserved : goal.add_of_parts-loop-part-preserved
add_of_parts-loop-part-preserved t c =
    let s = c.args.terms.now in
    let x = spot_of c.args.spot.now in
    appended (λ i xs. touches_of s x (parts_of xs)) (λ i u. touches_at s x (part_of u)) (λ i u us. refl) (kept_touches c.loop-part.touches.items) (kept_touches c.add_at.new.touches.items) _ c.args.parts.now c.loop-part.part-index c.part-item.result c.loop-part-test.true c.part-item.is c.in_ok-add_at.ensures c.loop-part.invariant

pub add_of_list-loop-node-preserved : goal.add_of_list-loop-node-preserved
add_of_list-loop-node-preserved t c =
    let s = c.args.terms.now in
    let x = spot_of c.args.spot.now in
    appended (λ i xs. touches_of s x (trees xs)) (λ i u. touches s x u) (λ i u us. refl) (kept_touches c.loop-node.touches.items) (kept_touches c.add_touches.new.touches.items) _ c.args.nodes.now c.loop-node.node-index c.node-item.result c.loop-node-test.true c.node-item.is c.in_ok-add_touches.ensures c.loop-node.invariant

pub add_of_list_with_holes-loop-node-preserved : goal.add_of_list_with_holes-loop-node-preserved
add_of_list_with_holes-loop-node-preserved t c =
    let s = c.args.terms.now in
    let x = spot_of c.args.spot.now in
    appended (λ i xs. touches_of s x (nullable_trees xs)) (λ i u. touches_at s x (nullable u)) (λ i u us. refl) (kept_touches c.loop-node.touches.items) (kept_touches c.add_of_hole.new.touches.items) _ c.args.nodes.now c.loop-node.node-index c.node-item.result c.loop-node-test.true c.node-item.is c.in_ok-add_of_hole.ensures c.loop-node.invariant

pub add_joined-loop-expression-preserved : goal.add_joined-loop-expression-preserved
add_joined-loop-expression-preserved t c =
    let s = c.args.terms.now in
    let x = spot_of c.args.spot.now in
    appended (λ i xs. joined s x (trees xs)) (λ i u. touches s x u ++ touch_around x) (λ i u us. joined_more s x u (trees us)) (kept_touches c.loop-expression.touches.items) (kept_touches c.add_converted.new.touches.items) _ c.args.expressions.now c.loop-expression.expression-index c.expression-item.result c.loop-expression-test.true c.expression-item.is c.in_ok-add_converted.ensures c.loop-expression.invariant

pub add_keys-loop-element-preserved : goal.add_keys-loop-element-preserved
add_keys-loop-element-preserved t c =
    let s = c.args.terms.now in
    let x = spot_of c.args.spot.now in
    appended (λ i xs. keys_touched s x (trees xs)) (λ i u. key_touch s x u) (λ i u us. keys_more s x u (trees us)) (kept_touches c.loop-element.touches.items) (kept_touches c.add_key.new.touches.items) _ c.args.elements.now c.loop-element.element-index c.element-item.result c.loop-element-test.true c.element-item.is c.in_ok-add_key.ensures c.loop-element.invariant

pub add_keys_with_holes-loop-element-preserved : goal.add_keys_with_holes-loop-element-preserved
add_keys_with_holes-loop-element-preserved t c =
    let s = c.args.terms.now in
    let x = spot_of c.args.spot.now in
    appended (λ i xs. keys_touched s x (nullable_trees xs)) (λ i u. if_tree (key_touch s x) u) (λ i u us. keys_more_hole s x u (nullable_trees us)) (kept_touches c.loop-element.touches.items) (kept_touches c.add_key_of_hole.new.touches.items) _ c.args.elements.now c.loop-element.element-index c.element-item.result c.loop-element-test.true c.element-item.is c.in_ok-add_key_of_hole.ensures c.loop-element.invariant

pub add_values-loop-element-preserved : goal.add_values-loop-element-preserved
add_values-loop-element-preserved t c =
    let s = c.args.terms.now in
    let x = spot_of c.args.spot.now in
    appended (λ i xs. values_touched s c.args.runs x (trees xs)) (λ i u. value_touch s c.args.runs x u) (λ i u us. values_more s c.args.runs x u (trees us)) (kept_touches c.loop-element.touches.items) (kept_touches c.add_value.new.touches.items) _ c.args.elements.now c.loop-element.element-index c.element-item.result c.loop-element-test.true c.element-item.is c.in_ok-add_value.ensures c.loop-element.invariant

pub add_values_with_holes-loop-element-preserved : goal.add_values_with_holes-loop-element-preserved
add_values_with_holes-loop-element-preserved t c =
    let s = c.args.terms.now in
    let x = spot_of c.args.spot.now in
    appended (λ i xs. values_touched s c.args.runs x (nullable_trees xs)) (λ i u. if_tree (value_touch s c.args.runs x) u) (λ i u us. values_more_hole s c.args.runs x u (nullable_trees us)) (kept_touches c.loop-element.touches.items) (kept_touches c.add_value_of_hole.new.touches.items) _ c.args.elements.now c.loop-element.element-index c.element-item.result c.loop-element-test.true c.element-item.is c.in_ok-add_value_of_hole.ensures c.loop-element.invariant

pub add_call-returns-else-is_arrow : goal.add_call-returns-else-is_arrow
add_call-returns-else-is_arrow t c =
    let s = c.args.terms.now in
    let x = spot_of c.args.spot.now in
    let n = c.args.node.now in
    let old = kept_touches c.args.touches.now.items in
    let arrow : is_arrow (kind_of c.from_node.result.callee.now) ≡ false = ap is_arrow (sym c.kind.ensures) ∙ sym c.is_arrow.ensures ∙ c.if-is_arrow.false in
    OnOk-map c.add_from-else-is_arrow.result _ _ (λ e.
    e
    ∙ ap (λ ps. old ++ touches_from s (spot_at x n) 0 ps) (sym c.parts-parts.ensures.list)
    ∙ ap (λ ts. old ++ ts) (sym (call_other s (in_no_chain x) (spot_at x n) n _ _ _ _ _ c.from_node.ensures arrow))) c.add_from-else-is_arrow.ensures

pub add_assignment-returns-in_default : goal.add_assignment-returns-in_default
add_assignment-returns-in_default t c =
    let s = c.args.terms.now in
    let x = spot_of c.args.spot.now in
    let n = c.args.node.now in
    let at = spot_at x n in
    let old = kept_touches c.args.touches.now.items in
    let xs = c.parts-parts.result.now in
    let below : length xs < 3 = omega (arith, c.in_default.len_below) in
    OnOk-map c.add_from.result _ _ (λ e. e ∙ ap (λ ts. old ++ ts) (sym (assigned_short s (in_no_chain x) at xs below) ∙ ap (λ ps. inner_touches s Kind.AssignmentExpression (in_no_chain x) at ps) (sym c.parts-parts.ensures.list))) c.add_from.ensures

pub add_default-returns-in_default : goal.add_default-returns-in_default
add_default-returns-in_default t c =
    let s = c.args.terms.now in
    let x = spot_of c.args.spot.now in
    let n = c.args.node.now in
    let at = spot_at x n in
    let old = kept_touches c.args.touches.now.items in
    let xs = c.parts-parts.result.now in
    let below : length xs < 2 = omega (arith, c.in_default.len_below) in
    OnOk-map c.add_from.result _ _ (λ e. e ∙ ap (λ ts. old ++ ts) (sym (default_short s (in_no_chain x) at xs below) ∙ ap (λ ps. inner_touches s Kind.AssignmentTargetWithDefault (in_no_chain x) at ps) (sym c.parts-parts.ensures.list))) c.add_from.ensures

pub add_assignment-returns-in_ok-add_part-in-len3-up : goal.add_assignment-returns-in_ok-add_part-in-len3-up
add_assignment-returns-in_ok-add_part-in-len3-up t c =
    let s = c.args.terms.now in
    let x = spot_of c.args.spot.now in
    let n = c.args.node.now in
    let at = spot_at x n in
    let old = kept_touches c.args.touches.now.items in
    let xs = c.parts-parts.result.now in
    let long : 3 ≤ length xs = omega (arith, c.in-len3-up.len_at_least) in
    OnOk-map c.add_part-then-is_pattern.result _ _ (λ e.
    appended_twice old (kept_touches c.add_part.new.touches.items) (kept_touches c.add_part-then-is_pattern.new.touches.items) (touches_at s (at 2) (part_of c.value-item.result)) (touches_at s (at 1) (part_of c.target-item.result)) c.in_ok-add_part-in-len3-up.ensures e
    ∙ ap (λ ts. old ++ ts) (sym (assigned_pattern_at s at (in_no_chain x) xs c.target-item.result c.value-item.result long c.target-item.is c.value-item.is (sym c.is_pattern.ensures ∙ c.if-is_pattern.true)) ∙ ap (λ ps. inner_touches s Kind.AssignmentExpression (in_no_chain x) at ps) (sym c.parts-parts.ensures.list))) c.add_part-then-is_pattern.ensures

pub add_assignment-returns-in_ok-add_part-in-len3-up-2 : goal.add_assignment-returns-in_ok-add_part-in-len3-up-2
add_assignment-returns-in_ok-add_part-in-len3-up-2 t c =
    let s = c.args.terms.now in
    let x = spot_of c.args.spot.now in
    let n = c.args.node.now in
    let at = spot_at x n in
    let old = kept_touches c.args.touches.now.items in
    let xs = c.parts-parts.result.now in
    let long : 3 ≤ length xs = omega (arith, c.in-len3-up.len_at_least) in
    OnOk-map c.add_part-else-is_pattern-2.result _ _ (λ e.
    appended_twice old (kept_touches c.add_part-else-is_pattern.new.touches.items) (kept_touches c.add_part-else-is_pattern-2.new.touches.items) (touches_at s (at 1) (part_of c.target-item.result)) (touches_at s (at 2) (part_of c.value-item.result)) c.in_ok-add_part-in-len3-up-2.ensures e
    ∙ ap (λ ts. old ++ ts) (sym (assigned_other_at s at (in_no_chain x) xs c.target-item.result c.value-item.result long c.target-item.is c.value-item.is (sym c.is_pattern.ensures ∙ c.if-is_pattern.false)) ∙ ap (λ ps. inner_touches s Kind.AssignmentExpression (in_no_chain x) at ps) (sym c.parts-parts.ensures.list))) c.add_part-else-is_pattern-2.ensures

pub add_default-returns-in_ok-add_part-in-len2-up : goal.add_default-returns-in_ok-add_part-in-len2-up
add_default-returns-in_ok-add_part-in-len2-up t c =
    let s = c.args.terms.now in
    let x = spot_of c.args.spot.now in
    let n = c.args.node.now in
    let at = spot_at x n in
    let old = kept_touches c.args.touches.now.items in
    let xs = c.parts-parts.result.now in
    let long : 2 ≤ length xs = omega (arith, c.in-len2-up.len_at_least) in
    OnOk-map c.add_part-then-is_member.result _ _ (λ e.
    appended_twice old (kept_touches c.add_part.new.touches.items) (kept_touches c.add_part-then-is_member.new.touches.items) (touches_at s (at 0) (part_of c.target-item.result)) (touches_at s (at 1) (part_of c.value-item.result)) c.in_ok-add_part-in-len2-up.ensures e
    ∙ ap (λ ts. old ++ ts) (sym (default_member_at s at (in_no_chain x) xs c.target-item.result c.value-item.result long c.target-item.is c.value-item.is (sym c.is_member.ensures ∙ c.if-is_member.true)) ∙ ap (λ ps. inner_touches s Kind.AssignmentTargetWithDefault (in_no_chain x) at ps) (sym c.parts-parts.ensures.list))) c.add_part-then-is_member.ensures

pub add_default-returns-in_ok-add_part-in-len2-up-2 : goal.add_default-returns-in_ok-add_part-in-len2-up-2
add_default-returns-in_ok-add_part-in-len2-up-2 t c =
    let s = c.args.terms.now in
    let x = spot_of c.args.spot.now in
    let n = c.args.node.now in
    let at = spot_at x n in
    let old = kept_touches c.args.touches.now.items in
    let xs = c.parts-parts.result.now in
    let long : 2 ≤ length xs = omega (arith, c.in-len2-up.len_at_least) in
    OnOk-map c.add_part-else-is_member-2.result _ _ (λ e.
    appended_twice old (kept_touches c.add_part-else-is_member.new.touches.items) (kept_touches c.add_part-else-is_member-2.new.touches.items) (touches_at s (at 1) (part_of c.value-item.result)) (touches_at s (at 0) (part_of c.target-item.result)) c.in_ok-add_part-in-len2-up-2.ensures e
    ∙ ap (λ ts. old ++ ts) (sym (default_other_at s at (in_no_chain x) xs c.target-item.result c.value-item.result long c.target-item.is c.value-item.is (sym c.is_member.ensures ∙ c.if-is_member.false)) ∙ ap (λ ps. inner_touches s Kind.AssignmentTargetWithDefault (in_no_chain x) at ps) (sym c.parts-parts.ensures.list))) c.add_part-else-is_member-2.ensures

pub add_by_kind-returns-in_default : goal.add_by_kind-returns-in_default
add_by_kind-returns-in_default t c =
    let s = c.args.terms.now in
    let x = spot_of c.args.spot.now in
    let n = c.args.node.now in
    let at = spot_at x n in
    let old = kept_touches c.args.touches.now.items in
    OnOk-map c.add_from.result _ _ (λ e.
    e
    ∙ ap (λ ps. old ++ touches_from s at 0 ps) (sym c.parts.ensures.list)
    ∙ ap (λ ts. old ++ ts) (sym (inner_other s (kind_of n) (in_no_chain x) at (parts_in n) (λ is. c.in_default.not-CallExpression (c.kind.ensures ∙ is)) (λ is. c.in_default.not-TemplateLiteral (c.kind.ensures ∙ is)) (λ is. c.in_default.not-AssignmentTargetWithDefault (c.kind.ensures ∙ is)) (λ is. c.in_default.not-AssignmentExpression (c.kind.ensures ∙ is))))) c.add_from.ensures

pub add_call-returns-in_ok-add_from : goal.add_call-returns-in_ok-add_from
add_call-returns-in_ok-add_from t c =
    let s = c.args.terms.now in
    let x = spot_of c.args.spot.now in
    let n = c.args.node.now in
    let at = spot_at x n in
    let old = kept_touches c.args.touches.now.items in
    let callee = c.from_node.result.callee.now in
    let mid = kept_touches c.add_from.new.touches.items in
    let run = cond (is_new s.first (number_in callee)) (touches_of s (in_no_chain x) (parts_in callee)) [] in
    let arrow : is_arrow (kind_of callee) ≡ true = ap is_arrow (sym c.kind.ensures) ∙ sym c.is_arrow.ensures ∙ c.if-is_arrow.true in
    OnOk-map c.add_called.result _ _ (λ e.
    appended_twice old mid (kept_touches c.add_called.new.touches.items) (touches_from s at 1 (parts_from 1 (parts_of c.parts-parts.result.now))) run c.in_ok-add_from.ensures (e ∙ ap (λ y. mid ++ cond (is_new s.first (number_in callee)) (touches_of s y (parts_in callee)) []) c.in_no_chain.ensures)
    ∙ ap (λ ps. old ++ (touches_from s at 1 (parts_from 1 ps) ++ run)) (sym c.parts-parts.ensures.list)
    ∙ ap (λ ts. old ++ ts) (sym (call_arrow s (in_no_chain x) at n _ _ _ callee _ c.from_node.ensures arrow))) c.add_called.ensures

pub add_class-add_running-requires : goal.add_class-add_running-requires
add_class-add_running-requires t c =
    let xs = c.parts.result.now in
    let long : 2 < length xs = omega (arith, c.in-len3-up.len_at_least) in
    (omega (arith, part_below xs 2 c.body-item.result long, ap (λ p. nodes_of_part (part_of p)) c.body-item.is, ap nodes_of c.parts.ensures.list, c.decreases), tt)

pub add_class-returns-in_ok-add_made-in-len3-up : goal.add_class-returns-in_ok-add_made-in-len3-up
add_class-returns-in_ok-add_made-in-len3-up t c =
    let s = c.args.terms.now in
    let x = spot_of c.args.spot.now in
    let n = c.args.node.now in
    let old = kept_touches c.args.touches.now.items in
    let xs = c.parts.result.now in
    let h = touches_at s x (part_of c.heritage-item.result) in
    let k = key_touches s x (part_of c.body-item.result) in
    let v = spec.without_this (value_touches s true x (part_of c.body-item.result)) in
    let made : ℕ → List Touch = λ m. touch x.held m spec.makes_class ++ touch x.held m spec.another in
    let long : 3 ≤ length xs = omega (arith, c.in-len3-up.len_at_least) in
    OnOk-map c.add_running.result _ _ (λ e.
    appended_four old (kept_touches c.add_at.new.touches.items) (kept_touches c.add_keys_in.new.touches.items) (kept_touches c.add_made.new.touches.items) (kept_touches c.add_running.new.touches.items) h k (made c.node_id.result.0) v c.in_ok-add_at-in-len3-up.ensures c.in_ok-add_keys_in-in-len3-up.ensures c.in_ok-add_made-in-len3-up.ensures e
    ∙ ap (λ m. old ++ (h ++ (k ++ (made m ++ v)))) c.node_id.ensures
    ∙ ap (λ ts. old ++ ts) (sym (class_at s (spot_at x n) x (number_in n) xs c.heritage-item.result c.body-item.result long c.heritage-item.is c.body-item.is) ∙ ap (λ ps. class_touches s x (number_in n) ps) (sym c.parts.ensures.list))) c.add_running.ensures

pub add_keyed-returns-in_ok-add_conversion-in-len1-up : goal.add_keyed-returns-in_ok-add_conversion-in-len1-up
add_keyed-returns-in_ok-add_conversion-in-len1-up t c =
    let s = c.args.terms.now in
    let x = spot_of c.args.spot.now in
    let n = c.args.node.now in
    let at = spot_at x n in
    let old = kept_touches c.args.touches.now.items in
    let xs = c.parts-parts.result.now in
    let m1 = kept_touches c.add_part.new.touches.items in
    let m2 = kept_touches c.add_conversion.new.touches.items in
    let new = kept_touches c.add_from.new.touches.items in
    let conversion = converted x (kind_of n) (number_in n) in
    let first = touches_at s (at 0) (part_of c.key-item.result) in
    let rest = touches_from s at 1 (parts_from 1 (parts_of xs)) in
    let long : 1 ≤ length xs = omega (arith, c.in-len1-up.len_at_least) in
    OnOk-map c.add_from.result _ _ (λ e.
    appended_twice old m1 new first (conversion ++ rest) c.in_ok-add_part-in-len1-up.ensures (appended_twice m1 m2 new conversion rest c.in_ok-add_conversion-in-len1-up.ensures e)
    ∙ ap (λ ts. old ++ ts) (sym (keyed_at s at conversion xs c.key-item.result long c.key-item.is) ∙ ap (λ ps. keyed s conversion at ps) (sym c.parts-parts.ensures.list))) c.add_from.ensures

pub add_turned-returns-in_ok-add_part-in-len2-up-2 : goal.add_turned-returns-in_ok-add_part-in-len2-up-2
add_turned-returns-in_ok-add_part-in-len2-up-2 t c =
    let s = c.args.terms.now in
    let x = spot_of c.args.spot.now in
    let n = c.args.node.now in
    let at = spot_at x n in
    let old = kept_touches c.args.touches.now.items in
    let xs = c.parts-parts.result.now in
    let m1 = kept_touches c.add_part-in-len2-up.new.touches.items in
    let m2 = kept_touches c.add_part-in-len2-up-2.new.touches.items in
    let new = kept_touches c.add_from.new.touches.items in
    let second = touches_at s (at 1) (part_of c.second-item.result) in
    let first = touches_at s (at 0) (part_of c.first-item.result) in
    let rest = touches_from s at 2 (parts_from 2 (parts_of xs)) in
    let long : 2 ≤ length xs = omega (arith, c.in-len2-up.len_at_least) in
    OnOk-map c.add_from.result _ _ (λ e.
    appended_twice old m1 new second (first ++ rest) c.in_ok-add_part-in-len2-up.ensures (appended_twice m1 m2 new first rest c.in_ok-add_part-in-len2-up-2.ensures e)
    ∙ ap (λ ts. old ++ ts) (sym (turned_at s at xs c.first-item.result c.second-item.result long c.first-item.is c.second-item.is) ∙ ap (λ ps. turned s at ps) (sym c.parts-parts.ensures.list))) c.add_from.ensures

pub add_turned-returns-in-len1 : goal.add_turned-returns-in-len1
add_turned-returns-in-len1 t c =
    let s = c.args.terms.now in
    let at = spot_at (spot_of c.args.spot.now) c.args.node.now in
    let old = kept_touches c.args.touches.now.items in
    let xs = c.parts-parts.result.now in
    let one : length xs ≡ 1 = omega (arith, c.in-len1.len_at_least, c.in-len1.len_below) in
    OnOk-map c.add_part.result _ _ (λ e. e ∙ ap (λ ts. old ++ ts) (sym (turned_only s at xs c.only-item.result one c.only-item.is) ∙ ap (λ ps. turned s at ps) (sym c.parts-parts.ensures.list))) c.add_part.ensures

pub add_value-returns-in-len1-up : goal.add_value-returns-in-len1-up
add_value-returns-in-len1-up t c =
    let s = c.args.terms.now in
    let runs = c.args.runs in
    let x = spot_of c.args.spot.now in
    let u = c.args.element.now in
    let old = kept_touches c.args.touches.now.items in
    let xs = c.parts-parts.result.now in
    let long : 1 ≤ length xs = omega (arith, c.in-len1-up.len_at_least) in
    let same : is_same runs (runs_with_class (child u)) ≡ true = ap (λ r. is_same runs r) (sym c.runs_with_class.ensures) ∙ sym c.is_same.ensures ∙ c.if-not-is_same.false in
    OnOk-map c.add_element.result _ _ (λ e. e ∙ ap (λ ts. old ++ ts) (sym (value_at s runs x u xs c.parts-parts.ensures.list long same))) c.add_element.ensures
