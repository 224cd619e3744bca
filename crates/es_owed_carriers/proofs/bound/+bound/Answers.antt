use Rattle.std.proofs.Common.{ap, arith, sym, ◌∙◌, ◌++◌}
use Rattle.es_base.specs.Preorder.{nodes, nodes_of_part}
use Rattle.es_base.specs.Tree.{nullable}
use Rattle.es_node.specs.View.{part_of, parts_in}
use Rattle.es_binding_faults.proofs.Appending.{OnOk-map, appended_twice}
use Rattle.es_node.proofs.Below.{part_below, tree_below, hole_below}
use Rattle.es_owed_carriers.proofs.BoundNodes.{bound_by_node}
use Rattle.es_owed_carriers.specs.Pairs.{pairs_of}
use Rattle.es_owed_carriers.specs.Places.{bound_from, own_bounds, place_of, place_within}
use Rattle.es_owed_carriers.proofs.bound.+bound.Goals as goal

pub add_bound_in-add_bound_at-requires : goal.add_bound_in-add_bound_at-requires
add_bound_in-add_bound_at-requires t c = (omega (arith, part_below c.args.parts.now c.loop-i.i c.index-parts-i.result c.loop-i-test.true, ap (λ p. nodes_of_part (part_of p)) c.index-parts-i.is, c.decreases), tt)

pub add_bound_of_list-add_bound-requires : goal.add_bound_of_list-add_bound-requires
add_bound_of_list-add_bound-requires t c = (omega (arith, tree_below c.args.nodes.now c.loop-node.node-index c.node-item.result c.loop-node-test.true, ap nodes c.node-item.is, c.decreases), tt)

pub add_bound_of_list_with_holes-add_bound_of_hole-requires : goal.add_bound_of_list_with_holes-add_bound_of_hole-requires
add_bound_of_list_with_holes-add_bound_of_hole-requires t c = (omega (arith, hole_below c.args.nodes.now c.loop-node.node-index c.node-item.result c.loop-node-test.true, ap (λ n. nodes_of_part (nullable n)) c.node-item.is, c.decreases), tt)

pub add_bound-returns : goal.add_bound-returns
add_bound-returns t c =
    let first = c.args.first in
    let x = place_of c.args.place in
    let n = c.args.node.now in
    OnOk-map c.add_bound_in.result _ _ (λ e.
    appended_twice (pairs_of c.args.found.now.items) (pairs_of c.add_own.new.found.items) (pairs_of c.add_bound_in.new.found.items) (own_bounds first x n) (bound_from first (place_within x n) 0 (parts_in n)) c.in_ok-add_own.ensures
    (e ∙ ap (λ ps. pairs_of c.add_own.new.found.items ++ bound_from first (place_within x n) 0 ps) (sym c.parts.ensures.list))
    ∙ ap (λ bs. pairs_of c.args.found.now.items ++ bs) (sym (bound_by_node first x n))) c.add_bound_in.ensures
