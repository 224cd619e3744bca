use Rattle.std.proofs.Common.{◌≡◌, sym, ap, ◌∙◌, ◌+◌, drop, Bool, ◌||◌, arith}
use Rattle.es_base.specs.Preorder.{nodes, nodes_of_part}
use Rattle.es_base.specs.Tree.{nullable}
use Rattle.es_node.specs.View.{part_of, parts_of}
use Rattle.es_node.proofs.Below.{part_below, tree_below, hole_below}
use Rattle.es_lowered.specs.Supers.{SuperPlace, stray_super_at}
use Rattle.es_owed_places.specs.SuperPlaces.{place_of, place_within, stray_super_from}
use Rattle.es_owed_places.proofs.SuperPlaces.{next_part}
use Rattle.es_owed_places.proofs.supers.+stray.Goals as goal

pub stray_super_in-stray_super_at-requires : goal.stray_super_in-stray_super_at-requires
stray_super_in-stray_super_at-requires t c = (omega (arith, part_below c.args.parts.now c.loop-i.i c.index-parts-i.result c.loop-i-test.true, ap (λ p. nodes_of_part (part_of p)) c.index-parts-i.is, c.decreases), tt)

pub stray_super_of_list-has_stray_super-requires : goal.stray_super_of_list-has_stray_super-requires
stray_super_of_list-has_stray_super-requires t c = (omega (arith, tree_below c.args.nodes.now c.loop-node.node-index c.node-item.result c.loop-node-test.true, ap nodes c.node-item.is, c.decreases), tt)

pub stray_super_of_list_with_holes-stray_super_of_hole-requires : goal.stray_super_of_list_with_holes-stray_super_of_hole-requires
stray_super_of_list_with_holes-stray_super_of_hole-requires t c = (omega (arith, hole_below c.args.nodes.now c.loop-node.node-index c.node-item.result c.loop-node-test.true, ap (λ n. nodes_of_part (nullable n)) c.node-item.is, c.decreases), tt)

pub stray_super_in-returns-then-stray_super_at : goal.stray_super_in-returns-then-stray_super_at
stray_super_in-returns-then-stray_super_at t c =
    let within = place_within (place_of c.args.place) c.args.node.now in
    let i = c.loop-i.i in
    let part = c.index-parts-i.result in
    let rest = stray_super_from within (i + 1) (parts_of (drop (i + 1) c.args.parts.now)) in
    let here : c.stray_super_at.result ≡ stray_super_at (within i) (part_of part) = c.stray_super_at.ensures ∙ ap (λ (y : SuperPlace). stray_super_at y (part_of part)) c.place_inside.ensures in
    ap (λ (b : Bool). b || rest) (sym c.if-stray_super_at.true ∙ here)
    ∙ sym (next_part within c.args.parts.now i part c.loop-i-test.true c.index-parts-i.is)
    ∙ c.loop-i.invariant

pub stray_super_in-loop-i-preserved : goal.stray_super_in-loop-i-preserved
stray_super_in-loop-i-preserved t c =
    let within = place_within (place_of c.args.place) c.args.node.now in
    let i = c.loop-i.i in
    let part = c.index-parts-i.result in
    let rest = stray_super_from within (i + 1) (parts_of (drop (i + 1) c.args.parts.now)) in
    let here : c.stray_super_at.result ≡ stray_super_at (within i) (part_of part) = c.stray_super_at.ensures ∙ ap (λ (y : SuperPlace). stray_super_at y (part_of part)) c.place_inside.ensures in
    ap (λ (b : Bool). b || rest) (sym c.if-stray_super_at.false ∙ here)
    ∙ sym (next_part within c.args.parts.now i part c.loop-i-test.true c.index-parts-i.is)
    ∙ c.loop-i.invariant
