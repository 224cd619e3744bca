use Rattle.std.proofs.Common.{ap, append_assoc, arith, sym, ◌∙◌, ◌++◌}
use Rattle.es_base.specs.Preorder.{nodes, nodes_of_part}
use Rattle.es_base.specs.Tree.{nullable}
use Rattle.es_binding_faults.proofs.Appending.{OnOk-map, appended_twice}
use Rattle.es_by_number.specs.Numbered.{pairs}
use Rattle.es_node.specs.View.{kind_of, number_in, part_of, parts_in}
use Rattle.es_node.proofs.Below.{part_below, tree_below, hole_below}
use Rattle.es_places.proofs.Placed.{places_node}
use Rattle.es_places.specs.Placing.{head_place, place_of, places_from, surroundings_of, surroundings_within}
use Rattle.es_places.proofs.places.+places.Goals as goal

pub add_places_in-add_places_at-requires : goal.add_places_in-add_places_at-requires
add_places_in-add_places_at-requires t c = (omega (arith, part_below c.args.parts.now c.loop-i.i c.index-parts-i.result c.loop-i-test.true, ap (λ p. nodes_of_part (part_of p)) c.index-parts-i.is, c.decreases), tt)

pub add_places_of_list-add_places-requires : goal.add_places_of_list-add_places-requires
add_places_of_list-add_places-requires t c = (omega (arith, tree_below c.args.nodes.now c.loop-node.node-index c.node-item.result c.loop-node-test.true, ap nodes c.node-item.is, c.decreases), tt)

pub add_places_of_list_with_holes-add_places_of_hole-requires : goal.add_places_of_list_with_holes-add_places_of_hole-requires
add_places_of_list_with_holes-add_places_of_hole-requires t c = (omega (arith, hole_below c.args.nodes.now c.loop-node.node-index c.node-item.result c.loop-node-test.true, ap (λ n. nodes_of_part (nullable n)) c.node-item.is, c.decreases), tt)

pub add_places-returns : goal.add_places-returns
add_places-returns t c =
    let o = c.args.terms.now in
    let s = surroundings_of c.args.around in
    let n = c.args.node.now in
    let within = surroundings_within o.first_new o.ledger.now s n in
    OnOk-map c.add_places_in.result _ _ (λ e.
    let own = place_of o s (kind_of n) (number_in n) in
    let head = head_place o s (kind_of n) (parts_in n) in
    appended_twice (pairs c.args.found.now.items) (pairs c.add_head_place.new.found.items) (pairs c.add_places_in.new.found.items) (own ++ head) (places_from o within 0 (parts_in n))
    (appended_twice (pairs c.args.found.now.items) (pairs c.add_place.new.found.items) (pairs c.add_head_place.new.found.items) own head c.in_ok-add_place.ensures c.in_ok-add_head_place.ensures)
    (e ∙ ap (λ ps. pairs c.add_head_place.new.found.items ++ places_from o within 0 ps) (sym c.parts.ensures.list))
    ∙ ap (λ hs. pairs c.args.found.now.items ++ hs) (append_assoc own head (places_from o within 0 (parts_in n)))
    ∙ ap (λ hs. pairs c.args.found.now.items ++ hs) (sym (places_node o s n))) c.add_places_in.ensures
