use Rattle.std.proofs.Common.{refl, ap, arith, sym, ◌∙◌, ◌++◌}
use Rattle.es_base.specs.Preorder.{nodes, nodes_of_part}
use Rattle.es_base.specs.Table.{members_of}
use Rattle.es_base.specs.Tree.{nullable}
use Rattle.es_binding_faults.proofs.Appending.{OnOk-map, appended_twice}
use Rattle.es_lowered.specs.Temporaries.{is_bare, touch_of}
use Rattle.es_node.proofs.Below.{part_below, tree_below, hole_below}
use Rattle.es_node.proofs.Shapes.{members_length}
use Rattle.es_node.specs.View.{kind_of, part_of, parts_in}
use Rattle.es_owed_temporaries.proofs.TouchesAround.{touches_alike, touches_node}
use Rattle.es_owed_temporaries.specs.Touches.{spot_here, spot_within, touches_all, touches_from}
use Rattle.es_owed_temporaries.proofs.touches.+touches.Goals as goal

pub add_touches_in-loop-i-init : goal.add_touches_in-loop-i-init
add_touches_in-loop-i-init t c = (members_length c.args.members.now c.args.parts.now c.requires, refl)

pub add_touches_in-add_touches_at-requires : goal.add_touches_in-add_touches_at-requires
add_touches_in-add_touches_at-requires t c = (omega (arith, part_below c.args.parts.now c.loop-i.i c.index-parts-i.result c.loop-i-test.true, ap (λ p. nodes_of_part (part_of p)) c.index-parts-i.is, c.decreases), tt)

pub add_touches_of_list-add_touches-requires : goal.add_touches_of_list-add_touches-requires
add_touches_of_list-add_touches-requires t c = (omega (arith, tree_below c.args.nodes.now c.loop-node.node-index c.node-item.result c.loop-node-test.true, ap nodes c.node-item.is, c.decreases), tt)

pub add_touches_of_list_with_holes-add_touches_of_hole-requires : goal.add_touches_of_list_with_holes-add_touches_of_hole-requires
add_touches_of_list_with_holes-add_touches_of_hole-requires t c = (omega (arith, hole_below c.args.nodes.now c.loop-node.node-index c.node-item.result c.loop-node-test.true, ap (λ n. nodes_of_part (nullable n)) c.node-item.is, c.decreases), tt)

pub add_touches-returns : goal.add_touches-returns
add_touches-returns t c =
    let first = c.args.first in
    let ledger = c.args.ledger.now in
    let x = spot_here c.args.spot in
    let n = c.args.node.now in
    OnOk-map c.add_touches_in.result _ _ (λ e.
    appended_twice (touches_all c.args.touches.now.items) (touches_all c.add_touch.new.touches.items) (touches_all c.add_touches_in.new.touches.items) (touch_of c.args.gives x (kind_of n) (parts_in n)) (touches_from first ledger (spot_within first ledger x n) (is_bare (kind_of n) (parts_in n)) 0 (members_of (kind_of n)) (parts_in n)) c.in_ok-add_touch.ensures
    (e ∙ ap (λ ts. touches_all c.add_touch.new.touches.items ++ ts) (touches_alike first ledger (spot_within first ledger x n) _ _ _ _ _ _ c.is_bare.ensures (c.members-members.ensures ∙ ap members_of c.kind.ensures) (sym c.parts.ensures.list)))
    ∙ ap (λ ts. touches_all c.args.touches.now.items ++ ts) (sym (touches_node first ledger x c.args.gives n))) c.add_touches_in.ensures
