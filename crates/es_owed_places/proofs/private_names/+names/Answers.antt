use Rattle.std.proofs.Common.{◌≡◌, ap, arith, sym, ◌∙◌, [], length}
use Rattle.std.proofs.lemmas.Bool.{eqb-true}
use Rattle.std.proofs.lemmas.List.{nil_from_length}
use Rattle.es_base.specs.Preorder.{nodes, nodes_of_part}
use Rattle.es_base.specs.Tree.{nullable}
use Rattle.es_binding_faults.proofs.Appending.{IfOk-map}
use Rattle.es_lowered.specs.StrayNames.{stray_name_at}
use Rattle.es_node.specs.View.{part_of}
use Rattle.es_node.proofs.Below.{part_below, tree_below, hole_below}
use Rattle.es_seen_names.specs.Frames.{privates_in}
use Rattle.es_owed_places.proofs.StrayNames.{none_seen}
use Rattle.es_owed_places.proofs.private_names.+names.Goals as goal

pub stray_name_in-stray_name_in_part-requires : goal.stray_name_in-stray_name_in_part-requires
stray_name_in-stray_name_in_part-requires t c = (omega (arith, part_below c.args.parts.now c.loop-i.i c.index-parts-i.result c.loop-i-test.true, ap (λ p. nodes_of_part (part_of p)) c.index-parts-i.is, c.decreases), tt)

pub stray_name_of_list-has_stray_name-requires : goal.stray_name_of_list-has_stray_name-requires
stray_name_of_list-has_stray_name-requires t c = (omega (arith, tree_below c.args.nodes.now c.loop-node.node-index c.node-item.result c.loop-node-test.true, ap nodes c.node-item.is, c.decreases), tt)

pub stray_name_of_list_with_holes-stray_name_of_hole-requires : goal.stray_name_of_list_with_holes-stray_name_of_hole-requires
stray_name_of_list_with_holes-stray_name_of_hole-requires t c = (omega (arith, hole_below c.args.nodes.now c.loop-node.node-index c.node-item.result c.loop-node-test.true, ap (λ n. nodes_of_part (nullable n)) c.node-item.is, c.decreases), tt)

pub stray_name_in_part-returns-then-is_empty : goal.stray_name_in_part-returns-then-is_empty
stray_name_in_part-returns-then-is_empty t c =
    let none : c.in_ok-members.members.items ≡ [] = sym c.as_slice.ensures.value ∙ nil_from_length c.as_slice.result.now (eqb-true (length c.as_slice.result.now) 0 (sym c.if-is_empty.ensures)) in
    IfOk-map c.stray_name_at.result _ _ (λ holds h. h ∙ ap (λ seen. stray_name_at seen (part_of c.args.part.now)) (sym (none_seen (privates_in c.args.privates.now) c.args.node.now c.args.i c.in_ok-members.members.items c.in_ok-members.ensures none))) c.stray_name_at.ensures
