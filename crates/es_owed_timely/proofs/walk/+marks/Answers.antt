use Rattle.std.proofs.Common.{None, [], ap, arith, cond, false, nat_eq, option_map, refl, sym, ◌≡◌, ◌∙◌, ◌++◌, ◌&&◌}
use Rattle.es_base.specs.Preorder.{nodes, nodes_of_part}
use Rattle.es_base.specs.Tree.{nullable, trees}
use Rattle.es_binding_faults.proofs.Appending.{OnOk-map, appended, appended_all, appended_twice}
use Rattle.es_marks.specs.Around.{around_here}
use Rattle.es_marks.specs.Marks.{form_in, marks_of}
use Rattle.es_node.proofs.Below.{part_below, tree_below, hole_below}
use Rattle.es_node.specs.View.{kind_of, number_in, part_of, parts_in, parts_of}
use Rattle.es_steps.specs.Repeated.{is_arrow}
use Rattle.es_owed_timely.proofs.WalkedMarks.{called_other, dropped, inside_other, keys_more, marks_node, next_part, values_more}
use Rattle.es_owed_timely.specs.Search.{key_marks, marks_at, marks_before, marks_behind, value_marks}
use Rattle.es_owed_timely.specs.Walk.{around_at, gives_name, key_mark, marks_from, marks_inside, value_mark}
use Rattle.es_owed_timely.proofs.walk.+marks.Goals as goal

pub add_marks_from-add_marks_of_part-requires : goal.add_marks_from-add_marks_of_part-requires
add_marks_from-add_marks_of_part-requires t c = (omega (arith, part_below c.args.parts.now c.loop-i.i c.index-parts-i.result c.loop-i-test.true, ap (λ p. nodes_of_part (part_of p)) c.index-parts-i.is, c.decreases), tt)

pub add_marks_of_list-add_marks-requires : goal.add_marks_of_list-add_marks-requires
add_marks_of_list-add_marks-requires t c = (omega (arith, tree_below c.args.nodes.now c.loop-node.node-index c.node-item.result c.loop-node-test.true, ap nodes c.node-item.is, c.decreases), tt)

pub add_marks_of_list_with_holes-add_marks_of_hole-requires : goal.add_marks_of_list_with_holes-add_marks_of_hole-requires
add_marks_of_list_with_holes-add_marks_of_hole-requires t c = (omega (arith, hole_below c.args.nodes.now c.loop-node.node-index c.node-item.result c.loop-node-test.true, ap (λ n. nodes_of_part (nullable n)) c.node-item.is, c.decreases), tt)

pub add_keys-add_key-requires : goal.add_keys-add_key-requires
add_keys-add_key-requires t c = (omega (arith, tree_below c.args.elements.now c.loop-element.element-index c.element-item.result c.loop-element-test.true, ap nodes c.element-item.is, c.decreases), tt)

pub add_values-add_value-requires : goal.add_values-add_value-requires
add_values-add_value-requires t c = (omega (arith, tree_below c.args.elements.now c.loop-element.element-index c.element-item.result c.loop-element-test.true, ap nodes c.element-item.is, c.decreases), tt)

pub add_marks-returns : goal.add_marks-returns
add_marks-returns t c =
    let s = c.args.search.now in
    let x = around_here c.args.around.now in
    let in_let = option_map form_in c.args.in_let in
    let n = c.args.node.now in
    let old = marks_of c.args.marks.now.items in
    let before = marks_before s x (kind_of n) (number_in n) (parts_in n) in
    let inside = marks_inside s x n in
    let behind = marks_behind s x in_let (kind_of n) (number_in n) (parts_in n) in
    OnOk-map c.add_marks_behind.result _ _ (λ e.
    appended_twice old (marks_of c.add_marks_inside.new.marks.items) (marks_of c.add_marks_behind.new.marks.items) (before ++ inside) behind
    (appended_twice old (marks_of c.add_marks_before.new.marks.items) (marks_of c.add_marks_inside.new.marks.items) before inside c.in_ok-add_marks_before.ensures c.in_ok-add_marks_inside.ensures) e
    ∙ ap (λ ms. old ++ ms) (sym (marks_node s x in_let n))) c.add_marks_behind.ensures

pub add_marks_from-loop-i-preserved : goal.add_marks_from-loop-i-preserved
add_marks_from-loop-i-preserved t c =
    let s = c.args.search.now in
    let within = around_at s (around_here c.args.around.now) c.args.node.now in
    let in_let = option_map form_in c.args.in_let in
    let gives = c.args.gives in
    let i = c.loop-i.i in
    let part = c.index-parts-i.result in
    let old = marks_of c.loop-i.marks.items in
    appended (λ k xs. marks_from s within gives in_let k (parts_of xs)) (λ k p. cond (nat_eq k 1 && gives) [] (marks_at s (within k) in_let (part_of p))) (λ k p xs. next_part s within gives in_let k p xs)
    old (marks_of c.add_marks_of_part.new.marks.items) _ c.args.parts.now i part c.loop-i-test.true c.index-parts-i.is
    (c.in_ok-add_marks_of_part.ensures ∙ ap (λ b. old ++ cond b [] (marks_at s (within i) in_let (part_of part))) c.is_given_at-is_given.ensures) c.loop-i.invariant

pub add_marks_from-returns : goal.add_marks_from-returns
add_marks_from-returns t c =
    let s = c.args.search.now in
    let within = around_at s (around_here c.args.around.now) c.args.node.now in
    let of = marks_from s within c.args.gives (option_map form_in c.args.in_let) in
    appended_all (λ k xs. of k (parts_of xs)) (marks_of c.loop-i.marks.items) _ c.args.parts.now c.loop-i.i (λ k. refl) c.loop-i-test.false c.loop-i.invariant
    ∙ ap (λ ps. marks_of c.args.marks.now.items ++ of c.args.from ps) (dropped c.args.parts.now c.args.from)

pub add_marks_inside-returns-in_default : goal.add_marks_inside-returns-in_default
add_marks_inside-returns-in_default t c =
    let s = c.args.search.now in
    let x = around_here c.args.around.now in
    let n = c.args.node.now in
    let old = marks_of c.args.marks.now.items in
    let within = around_at s x n in
    let in_let = option_map form_in c.let_form-in_let.result in
    OnOk-map c.add_marks_from.result _ _ (λ e.
    e
    ∙ ap (λ ps. old ++ marks_from s within c.gives_name-gives.result in_let 0 ps) (sym c.parts-parts.ensures.list)
    ∙ ap (λ b. old ++ marks_from s within b in_let 0 (parts_in n)) c.gives_name-gives.ensures
    ∙ ap (λ form. old ++ marks_from s within (gives_name (kind_of n) (parts_in n)) form 0 (parts_in n)) c.let_form-in_let.ensures
    ∙ ap (λ ms. old ++ ms) (sym (inside_other s x n (λ is. c.in_default.not-ClassBody (c.kind.ensures ∙ is)) (λ is. c.in_default.not-CallExpression (c.kind.ensures ∙ is))))) c.add_marks_from.ensures

pub add_marks_of_call-returns-else-is_arrow : goal.add_marks_of_call-returns-else-is_arrow
add_marks_of_call-returns-else-is_arrow t c =
    let s = c.args.search.now in
    let x = around_here c.args.around.now in
    let n = c.args.node.now in
    let old = marks_of c.args.marks.now.items in
    let arrow : is_arrow (kind_of c.from_node.result.callee.now) ≡ false = ap is_arrow (sym c.kind.ensures) ∙ sym c.is_arrow.ensures ∙ c.if-is_arrow.false in
    OnOk-map c.add_marks_from-else-is_arrow.result _ _ (λ e.
    e
    ∙ ap (λ ps. old ++ marks_from s (around_at s x n) false None 0 ps) (sym c.parts-parts.ensures.list)
    ∙ ap (λ ms. old ++ ms) (sym (called_other s x n _ _ _ _ _ c.from_node.ensures arrow))) c.add_marks_from-else-is_arrow.ensures

pub add_keys-loop-element-preserved : goal.add_keys-loop-element-preserved
add_keys-loop-element-preserved t c =
    let s = c.args.search.now in
    let x = around_here c.args.around.now in
    appended (λ i xs. key_marks s x (trees xs)) (λ i u. key_mark s x u) (λ i u us. keys_more s x u (trees us)) (marks_of c.loop-element.marks.items) (marks_of c.add_key.new.marks.items) _ c.args.elements.now c.loop-element.element-index c.element-item.result c.loop-element-test.true c.element-item.is c.in_ok-add_key.ensures c.loop-element.invariant

pub add_values-loop-element-preserved : goal.add_values-loop-element-preserved
add_values-loop-element-preserved t c =
    let s = c.args.search.now in
    let x = around_here c.args.around.now in
    appended (λ i xs. value_marks s c.args.runs x (trees xs)) (λ i u. value_mark s c.args.runs x u) (λ i u us. values_more s c.args.runs x u (trees us)) (marks_of c.loop-element.marks.items) (marks_of c.add_value.new.marks.items) _ c.args.elements.now c.loop-element.element-index c.element-item.result c.loop-element-test.true c.element-item.is c.in_ok-add_value.ensures c.loop-element.invariant
