use Rattle.std.proofs.Common.{ap, arith, sym, ◌∙◌, ◌++◌}
use Rattle.es_base.specs.Preorder.{nodes, nodes_of_part}
use Rattle.es_base.specs.Tree.{nullable}
use Rattle.es_binding_faults.proofs.Appending.{OnOk-map, appended_twice}
use Rattle.es_lowered.specs.FunctionsAround.{placed_reference}
use Rattle.es_node.specs.View.{kind_of, number_in, part_of, parts_in}
use Rattle.es_node.proofs.Below.{part_below, tree_below, hole_below}
use Rattle.es_owed_places.specs.Placed.{around_in, constructors_within, functions_within, placed_from, references_of}
use Rattle.es_owed_places.proofs.PlacedNodes.{placed_node}
use Rattle.es_owed_places.proofs.placed.+placed.Goals as goal

pub add_placed_in-add_placed_part-requires : goal.add_placed_in-add_placed_part-requires
add_placed_in-add_placed_part-requires g t c κs within = (omega (arith, part_below c.args.parts.now c.loop-i.i c.index-parts-i.result c.loop-i-test.true, ap (λ p. nodes_of_part (part_of p)) c.index-parts-i.is, c.decreases), within)

pub add_placed_of_list-add_placed-requires : goal.add_placed_of_list-add_placed-requires
add_placed_of_list-add_placed-requires g t c κs within = (omega (arith, tree_below c.args.nodes.now c.loop-node.node-index c.node-item.result c.loop-node-test.true, ap nodes c.node-item.is, c.decreases), within)

pub add_placed_of_list_with_holes-add_placed_of_hole-requires : goal.add_placed_of_list_with_holes-add_placed_of_hole-requires
add_placed_of_list_with_holes-add_placed_of_hole-requires g t c κs within = (omega (arith, hole_below c.args.nodes.now c.loop-node.node-index c.node-item.result c.loop-node-test.true, ap (λ n. nodes_of_part (nullable n)) c.node-item.is, c.decreases), within)

pub add_placed-returns : goal.add_placed-returns
add_placed-returns g t c =
    let first = c.args.search.now.first in
    let asked = g.A.Asks.asks c.args.search.now.asked.now in
    let around = around_in c.args.around.now in
    let n = c.args.node.now in
    let constructors = constructors_within n in
    let functions = functions_within first c.args.is_constructor around n in
    OnOk-map c.add_placed_in.result _ _ (λ e.
    appended_twice (references_of c.args.found.now.items) (references_of c.add_reference.new.found.items) (references_of c.add_placed_in.new.found.items) (placed_reference first asked around (kind_of n) (number_in n) (parts_in n)) (placed_from first asked constructors functions 0 (parts_in n)) c.in_ok-add_reference.ensures
    (e ∙ ap (λ ps. references_of c.add_reference.new.found.items ++ placed_from first asked constructors functions 0 ps) (sym c.parts.ensures.list))
    ∙ ap (λ rs. references_of c.args.found.now.items ++ rs) (sym (placed_node first asked c.args.is_constructor around n))) c.add_placed_in.ensures
