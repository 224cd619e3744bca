use Rattle.std.proofs.Common.{◌≡◌, ◌∙◌, refl, sym, ◌++◌, [], cond, arith, ap, get_or}
use Rattle.es_base.specs.Preorder.{nodes, nodes_of, nodes_of_part}
use Rattle.es_base.specs.Tree.{child, nullable, trees, nullable_trees}
use Rattle.es_node.proofs.Below.{nodes_in, part_below, tree_below, hole_below}
use Rattle.es_node.specs.View.{number_in, part_of, parts_of, parts_in}
use Rattle.es_steps.specs.Scopes.{lexical_by, lexical_items, lexical_names, lexical_part, statement_form}
use Rattle.es_binding_faults.proofs.Appending.{appended, appended_all, OnOk-map}
use Rattle.es_binding_faults.specs.Hoisted.{form_of}
use Rattle.es_seen_names.proofs.Declarators.{lexical_is}
use Rattle.es_seen_names.specs.Declarations.{declarations}
use Rattle.es_seen_names.proofs.lexical.+lexical.Goals as goal

pub add_lexical_parts-add_lexical_part-requires : goal.add_lexical_parts-add_lexical_part-requires
add_lexical_parts-add_lexical_part-requires t c =
    let item = c.part-item.result in
    let same : nodes_of_part (part_of item) ≡ nodes_of_part (part_of (get_or c.args.parts.now c.loop-part.part-index item)) = ap (λ p. nodes_of_part (part_of p)) c.part-item.is in
    let below = part_below c.args.parts.now c.loop-part.part-index item c.loop-part-test.true in
    (omega (arith, below, same, c.decreases), tt)

pub add_lexical_parts-loop-part-preserved : goal.add_lexical_parts-loop-part-preserved
add_lexical_parts-loop-part-preserved t c = appended (λ i xs. lexical_items (parts_of xs)) (λ i u. lexical_part (part_of u)) (λ i x xs. refl) (declarations c.loop-part.names.items) (declarations c.add_lexical_part.new.names.items) _ c.args.parts.now c.loop-part.part-index c.part-item.result c.loop-part-test.true c.part-item.is c.in_ok-add_lexical_part.ensures c.loop-part.invariant

pub add_lexical_parts-returns : goal.add_lexical_parts-returns
add_lexical_parts-returns t c = appended_all (λ i xs. lexical_items (parts_of xs)) (declarations c.loop-part.names.items) _ c.args.parts.now c.loop-part.part-index (λ k. refl) c.loop-part-test.false c.loop-part.invariant

pub add_lexical_list-add_lexical-requires : goal.add_lexical_list-add_lexical-requires
add_lexical_list-add_lexical-requires t c =
    let item = c.node-item.result in
    let same : nodes item ≡ nodes (get_or c.args.nodes.now c.loop-node.node-index item) = ap nodes c.node-item.is in
    let below = tree_below c.args.nodes.now c.loop-node.node-index item c.loop-node-test.true in
    (omega (arith, below, same, c.decreases), tt)

pub add_lexical_list-loop-node-preserved : goal.add_lexical_list-loop-node-preserved
add_lexical_list-loop-node-preserved t c = appended (λ i xs. lexical_items (trees xs)) (λ i u. lexical_part (child u)) (λ i x xs. refl) (declarations c.loop-node.names.items) (declarations c.add_lexical.new.names.items) _ c.args.nodes.now c.loop-node.node-index c.node-item.result c.loop-node-test.true c.node-item.is c.in_ok-add_lexical.ensures c.loop-node.invariant

pub add_lexical_list-returns : goal.add_lexical_list-returns
add_lexical_list-returns t c = appended_all (λ i xs. lexical_items (trees xs)) (declarations c.loop-node.names.items) _ c.args.nodes.now c.loop-node.node-index (λ k. refl) c.loop-node-test.false c.loop-node.invariant

pub add_lexical_list_with_holes-add_lexical_hole-requires : goal.add_lexical_list_with_holes-add_lexical_hole-requires
add_lexical_list_with_holes-add_lexical_hole-requires t c =
    let item = c.node-item.result in
    let same : nodes_of_part (nullable item) ≡ nodes_of_part (nullable (get_or c.args.nodes.now c.loop-node.node-index item)) = ap (λ p. nodes_of_part (nullable p)) c.node-item.is in
    let below = hole_below c.args.nodes.now c.loop-node.node-index item c.loop-node-test.true in
    (omega (arith, below, same, c.decreases), tt)

pub add_lexical_list_with_holes-loop-node-preserved : goal.add_lexical_list_with_holes-loop-node-preserved
add_lexical_list_with_holes-loop-node-preserved t c = appended (λ i xs. lexical_items (nullable_trees xs)) (λ i u. lexical_part (nullable u)) (λ i x xs. refl) (declarations c.loop-node.names.items) (declarations c.add_lexical_hole.new.names.items) _ c.args.nodes.now c.loop-node.node-index c.node-item.result c.loop-node-test.true c.node-item.is c.in_ok-add_lexical_hole.ensures c.loop-node.invariant

pub add_lexical_list_with_holes-returns : goal.add_lexical_list_with_holes-returns
add_lexical_list_with_holes-returns t c = appended_all (λ i xs. lexical_items (nullable_trees xs)) (declarations c.loop-node.names.items) _ c.args.nodes.now c.loop-node.node-index (λ k. refl) c.loop-node-test.false c.loop-node.invariant

pub add_lexical-add_lexical_parts-requires : goal.add_lexical-add_lexical_parts-requires
add_lexical-add_lexical_parts-requires t c = (omega (arith, nodes_in c.args.node.now, ap nodes_of c.parts.ensures.list, c.decreases), tt)

pub add_lexical-returns-then-passes_on : goal.add_lexical-returns-then-passes_on
add_lexical-returns-then-passes_on t c =
    let u = c.args.node.now in
    let form = c.statement_form-form.result in
    let is : lexical_names u ≡ lexical_items (parts_of c.parts.result.now) =
    lexical_is u form (c.statement_form-form.ensures ∙ ap statement_form c.kind.ensures)
    ∙ ap (λ b. cond b (lexical_items (parts_in u)) (lexical_by (form_of form) (number_in u) (parts_in u) [])) (sym c.if-passes_on.ensures)
    ∙ ap lexical_items c.parts.ensures.list in
    OnOk-map c.add_lexical_parts.result _ _ (λ e. e ∙ ap (λ ds. declarations c.args.names.now.items ++ ds) (sym is)) c.add_lexical_parts.ensures

pub add_lexical-returns-else-passes_on : goal.add_lexical-returns-else-passes_on
add_lexical-returns-else-passes_on t c =
    let u = c.args.node.now in
    let form = c.statement_form-form.result in
    let is : lexical_names u ≡ lexical_by (form_of form) c.node_id.result.0 (parts_of c.parts-else-passes_on.result.now) [] =
    lexical_is u form (c.statement_form-form.ensures ∙ ap statement_form c.kind.ensures)
    ∙ ap (λ b. cond b (lexical_items (parts_in u)) (lexical_by (form_of form) (number_in u) (parts_in u) [])) (sym c.if-passes_on.ensures)
    ∙ ap (λ m. lexical_by (form_of form) m (parts_in u) []) (sym c.node_id.ensures)
    ∙ ap (λ ps. lexical_by (form_of form) c.node_id.result.0 ps []) c.parts-else-passes_on.ensures.list in
    OnOk-map c.add_own.result _ _ (λ e. e ∙ ap (λ ds. declarations c.args.names.now.items ++ ds) (sym is)) c.add_own.ensures
