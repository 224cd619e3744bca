use Rattle.std.proofs.Common.{◌≡◌, ◌∙◌, sym, refl, false, ◌+◌, ◌<◌, ◌++◌, length, drop, arith, ap, get_or}
use Rattle.es_base.specs.Preorder.{nodes, nodes_of, nodes_of_part}
use Rattle.es_base.specs.Table.{members_of}
use Rattle.es_base.specs.Tree.{child, nullable, trees, nullable_trees}
use Rattle.es_node.proofs.Below.{part_below, tree_below, hole_below}
use Rattle.es_node.specs.View.{kind_of, number_in, part_of, parts_of, parts_in}
use Rattle.es_steps.specs.Scopes.{is_body_part}
use Rattle.es_binding_faults.proofs.Appending.{appended, appended_at, appended_all, OnOk-map}
use Rattle.es_binding_faults.proofs.EvalNames.{evals_here, evals_below, next_evals, shapes_length}
use Rattle.es_binding_faults.specs.Evals.{declared_in, free_evals_from, free_evals_at, free_evals_of}
use Rattle.es_binding_faults.specs.Repeats.{numbers}
use Rattle.es_binding_faults.proofs.evals.+evals.Goals as goal

pub add_evals_in_list-add_evals-requires : goal.add_evals_in_list-add_evals-requires
add_evals_in_list-add_evals-requires t c =
    let item = c.node-item.result in
    let same : nodes item ≡ nodes (get_or c.args.nodes.now c.loop-node.node-index item) = ap nodes c.node-item.is in
    let below = tree_below c.args.nodes.now c.loop-node.node-index item c.loop-node-test.true in
    (omega (arith, below, same, c.decreases), tt)

pub add_evals_in_list-loop-node-preserved : goal.add_evals_in_list-loop-node-preserved
add_evals_in_list-loop-node-preserved t c = appended (λ i xs. free_evals_of c.args.declared (trees xs)) (λ i u. free_evals_at c.args.declared false (child u)) (λ i x xs. refl) (numbers c.loop-node.evals.items) (numbers c.add_evals.new.evals.items) _ c.args.nodes.now c.loop-node.node-index c.node-item.result c.loop-node-test.true c.node-item.is c.in_ok-add_evals.ensures c.loop-node.invariant

pub add_evals_in_list-returns : goal.add_evals_in_list-returns
add_evals_in_list-returns t c = appended_all (λ i xs. free_evals_of c.args.declared (trees xs)) (numbers c.loop-node.evals.items) _ c.args.nodes.now c.loop-node.node-index (λ k. refl) c.loop-node-test.false c.loop-node.invariant

pub add_evals_in_list_with_holes-add_evals_in_hole-requires : goal.add_evals_in_list_with_holes-add_evals_in_hole-requires
add_evals_in_list_with_holes-add_evals_in_hole-requires t c =
    let item = c.node-item.result in
    let same : nodes_of_part (nullable item) ≡ nodes_of_part (nullable (get_or c.args.nodes.now c.loop-node.node-index item)) = ap (λ p. nodes_of_part (nullable p)) c.node-item.is in
    let below = hole_below c.args.nodes.now c.loop-node.node-index item c.loop-node-test.true in
    (omega (arith, below, same, c.decreases), tt)

pub add_evals_in_list_with_holes-loop-node-preserved : goal.add_evals_in_list_with_holes-loop-node-preserved
add_evals_in_list_with_holes-loop-node-preserved t c = appended (λ i xs. free_evals_of c.args.declared (nullable_trees xs)) (λ i u. free_evals_at c.args.declared false (nullable u)) (λ i x xs. refl) (numbers c.loop-node.evals.items) (numbers c.add_evals_in_hole.new.evals.items) _ c.args.nodes.now c.loop-node.node-index c.node-item.result c.loop-node-test.true c.node-item.is c.in_ok-add_evals_in_hole.ensures c.loop-node.invariant

pub add_evals_in_list_with_holes-returns : goal.add_evals_in_list_with_holes-returns
add_evals_in_list_with_holes-returns t c = appended_all (λ i xs. free_evals_of c.args.declared (nullable_trees xs)) (numbers c.loop-node.evals.items) _ c.args.nodes.now c.loop-node.node-index (λ k. refl) c.loop-node-test.false c.loop-node.invariant

pub add_evals_in_parts-add_evals_in_part-requires : goal.add_evals_in_parts-add_evals_in_part-requires
add_evals_in_parts-add_evals_in_part-requires t c =
    let parts = c.parts-parts.result.now in
    let part = c.index-parts-i.result in
    let same : nodes_of_part (part_of part) ≡ nodes_of_part (part_of (get_or parts c.loop-i.i part)) = ap (λ p. nodes_of_part (part_of p)) c.index-parts-i.is in
    let below = part_below parts c.loop-i.i part c.loop-i-test.true in
    let all : nodes_of (parts_in c.args.node.now) ≡ nodes_of (parts_of parts) = ap nodes_of c.parts-parts.ensures.list in
    (omega (arith, below, same, all, c.decreases), tt)

pub add_evals_in_parts-loop-i-preserved : goal.add_evals_in_parts-loop-i-preserved
add_evals_in_parts-loop-i-preserved t c =
    let u = c.args.node.now in
    let ps = c.parts-parts.result.now in
    let i = c.loop-i.i in
    let part = c.index-parts-i.result in
    let fs = members_of (kind_of u) in
    let declared = declared_in c.args.declared c.args.is_body (kind_of u) (number_in u) (parts_in u) in
    let bodies = is_body_part (kind_of u) in
    let within : i < length fs = omega (arith, shapes_length fs ps c.parts-parts.ensures.shapes, c.loop-i-test.true) in
    appended_at (λ k xs. free_evals_from declared bodies k (drop k fs) (parts_of xs)) (λ k p. free_evals_at (declared k) (bodies k) (part_of p))
    (numbers c.loop-i.evals.items) (numbers c.add_evals_in_part.new.evals.items) _ ps i part c.loop-i-test.true c.index-parts-i.is
    (next_evals declared bodies fs i (part_of (get_or ps i part)) (parts_of (drop (i + 1) ps)) within)
    (c.in_ok-add_evals_in_part.ensures
    ∙ ap (λ b. numbers c.loop-i.evals.items ++ free_evals_at b c.is_body_part.result (part_of part)) c.in_ok-declared.ensures
    ∙ ap (λ b. numbers c.loop-i.evals.items ++ free_evals_at (declared i) b (part_of part)) (c.is_body_part.ensures ∙ ap (λ k. is_body_part k i) c.kind-kind.ensures))
    c.loop-i.invariant

pub add_evals_in_parts-returns : goal.add_evals_in_parts-returns
add_evals_in_parts-returns t c =
    let u = c.args.node.now in
    let fs = members_of (kind_of u) in
    let declared = declared_in c.args.declared c.args.is_body (kind_of u) (number_in u) (parts_in u) in
    appended_all (λ k xs. free_evals_from declared (is_body_part (kind_of u)) k (drop k fs) (parts_of xs)) (numbers c.loop-i.evals.items) _ c.parts-parts.result.now c.loop-i.i (λ k. refl) c.loop-i-test.false c.loop-i.invariant

pub add_evals-returns-then-is_reference : goal.add_evals-returns-then-is_reference
add_evals-returns-then-is_reference t c =
    OnOk-map c.add_reference.result _ _ (λ e. e ∙ ap (λ ns. numbers c.args.evals.now.items ++ ns) (sym (evals_here c.args.declared c.args.is_body c.args.node.now c.if-is_reference.ensures))) c.add_reference.ensures

pub add_evals-returns-else-is_reference : goal.add_evals-returns-else-is_reference
add_evals-returns-else-is_reference t c =
    OnOk-map c.add_evals_in_parts.result _ _ (λ e. e ∙ ap (λ ns. numbers c.args.evals.now.items ++ ns) (sym (evals_below c.args.declared c.args.is_body c.args.node.now c.if-is_reference.ensures))) c.add_evals_in_parts.ensures
