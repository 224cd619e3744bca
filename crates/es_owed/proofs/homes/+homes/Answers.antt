use Rattle.std.proofs.Common.{ap, arith, sym, ◌∙◌, ◌++◌}
use Rattle.es_base.specs.Preorder.{nodes, nodes_of_part}
use Rattle.es_base.specs.Tree.{nullable}
use Rattle.es_node.specs.View.{kind_of, number_in, part_of, parts_in}
use Rattle.es_binding_faults.proofs.Appending.{OnOk-map, appended_twice}
use Rattle.es_steps.specs.KeptNodes.{homed}
use Rattle.es_owed.proofs.HomesKept.{homes_node}
use Rattle.es_owed.specs.Homes.{home_here, home_within, homed_all, homes_from}
use Rattle.es_node.proofs.Below.{part_below, tree_below, hole_below}
use Rattle.es_owed.proofs.homes.+homes.Goals as goal

pub add_homes_in-add_homes_at-requires : goal.add_homes_in-add_homes_at-requires
add_homes_in-add_homes_at-requires t c = (omega (arith, part_below c.args.parts.now c.loop-i.i c.index-parts-i.result c.loop-i-test.true, ap (λ p. nodes_of_part (part_of p)) c.index-parts-i.is, c.decreases), tt)

pub add_homes_of_list-add_homes-requires : goal.add_homes_of_list-add_homes-requires
add_homes_of_list-add_homes-requires t c = (omega (arith, tree_below c.args.nodes.now c.loop-node.node-index c.node-item.result c.loop-node-test.true, ap nodes c.node-item.is, c.decreases), tt)

pub add_homes_of_list_with_holes-add_homes_of_hole-requires : goal.add_homes_of_list_with_holes-add_homes_of_hole-requires
add_homes_of_list_with_holes-add_homes_of_hole-requires t c = (omega (arith, hole_below c.args.nodes.now c.loop-node.node-index c.node-item.result c.loop-node-test.true, ap (λ n. nodes_of_part (nullable n)) c.node-item.is, c.decreases), tt)

pub add_homes-returns : goal.add_homes-returns
add_homes-returns t c =
    let x = home_here c.args.around in
    let n = c.args.node.now in
    OnOk-map c.add_homes_in.result _ _ (λ e.
    appended_twice (homed_all c.args.found.now.items) (homed_all c.add_homed.new.found.items) (homed_all c.add_homes_in.new.found.items) (homed x (kind_of n) (number_in n) (parts_in n)) (homes_from (home_within x n) 0 (parts_in n)) c.in_ok-add_homed.ensures
    (e ∙ ap (λ ps. homed_all c.add_homed.new.found.items ++ homes_from (home_within x n) 0 ps) (sym c.parts.ensures.list))
    ∙ ap (λ hs. homed_all c.args.found.now.items ++ hs) (sym (homes_node x n))) c.add_homes_in.ensures
