use Rattle.std.proofs.Common.{ap, arith, sym, ◌∙◌, ◌++◌}
use Rattle.es_base.specs.Preorder.{nodes, nodes_of_part}
use Rattle.es_base.specs.Tree.{nullable}
use Rattle.es_binding_faults.proofs.Appending.{OnOk-map, appended_twice}
use Rattle.es_by_number.specs.Numbered.{pairs}
use Rattle.es_node.specs.View.{kind_of, number_in, part_of, parts_in}
use Rattle.es_node.proofs.Below.{part_below, tree_below, hole_below}
use Rattle.es_steps.specs.Scopes.{is_body_part}
use Rattle.es_shared_names.proofs.SharedNodes.{shared_node}
use Rattle.es_shared_names.specs.SharedParts.{shared_from, shared_here}
use Rattle.es_shared_names.proofs.shared.+shared.Goals as goal

pub add_shared_in-add_shared_at-requires : goal.add_shared_in-add_shared_at-requires
add_shared_in-add_shared_at-requires t c = (omega (arith, part_below c.args.parts.now c.loop-i.i c.index-parts-i.result c.loop-i-test.true, ap (λ p. nodes_of_part (part_of p)) c.index-parts-i.is, c.decreases), tt)

pub add_shared_of_list-add_shared-requires : goal.add_shared_of_list-add_shared-requires
add_shared_of_list-add_shared-requires t c = (omega (arith, tree_below c.args.nodes.now c.loop-node.node-index c.node-item.result c.loop-node-test.true, ap nodes c.node-item.is, c.decreases), tt)

pub add_shared_of_list_with_holes-add_shared_of_hole-requires : goal.add_shared_of_list_with_holes-add_shared_of_hole-requires
add_shared_of_list_with_holes-add_shared_of_hole-requires t c = (omega (arith, hole_below c.args.nodes.now c.loop-node.node-index c.node-item.result c.loop-node-test.true, ap (λ n. nodes_of_part (nullable n)) c.node-item.is, c.decreases), tt)

pub add_shared-returns : goal.add_shared-returns
add_shared-returns t c =
    let b = c.args.is_body in
    let n = c.args.node.now in
    let bodies = is_body_part (kind_of n) in
    OnOk-map c.add_shared_in.result _ _ (λ e.
    appended_twice (pairs c.args.found.now.items) (pairs c.add_shared_here.new.found.items) (pairs c.add_shared_in.new.found.items) (shared_here b (kind_of n) (number_in n) (parts_in n)) (shared_from bodies 0 (parts_in n)) c.in_ok-add_shared_here.ensures
    (e ∙ ap (λ ps. pairs c.add_shared_here.new.found.items ++ shared_from bodies 0 ps) (sym c.parts.ensures.list))
    ∙ ap (λ hs. pairs c.args.found.now.items ++ hs) (sym (shared_node b n))) c.add_shared_in.ensures
