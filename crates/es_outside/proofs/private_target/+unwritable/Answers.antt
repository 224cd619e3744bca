use Rattle.std.proofs.Common.{◌≡◌, subst, ◌∙◌, ◌++◌, ◌||◌, ap, sym, arith}
use Rattle.std.specs.Prelude.{IfOk}
use Rattle.es_base.specs.Preorder.{nodes, nodes_of, nodes_of_part}
use Rattle.es_base.specs.Tree.{nullable, trees}
use Rattle.es_node.specs.View.{kind_of, part_of, parts_in}
use Rattle.es_node.proofs.Below.{part_below, tree_below, hole_below}
use Rattle.es_steps.specs.PrivateNames.{elements_members, members_at}
use Rattle.es_outside.specs.PrivateTargets.{seen_by, seen_in, unwritable_from}
use Rattle.es_outside.proofs.PrivateTargets.{unwritable_node}
use Rattle.es_outside.proofs.private_target.+unwritable.Goals as goal

pub unwritable_in-unwritable_in_part-requires : goal.unwritable_in-unwritable_in_part-requires
unwritable_in-unwritable_in_part-requires t c = (omega (arith, part_below c.parts-parts.result.now c.loop-i.i c.index-parts-i.result c.loop-i-test.true, ap (λ p. nodes_of_part (part_of p)) c.index-parts-i.is, ap nodes_of c.parts-parts.ensures.list, c.decreases), tt)

pub unwritable_in_list-has_unwritable-requires : goal.unwritable_in_list-has_unwritable-requires
unwritable_in_list-has_unwritable-requires t c = (omega (arith, tree_below c.args.nodes.now c.loop-node.node-index c.node-item.result c.loop-node-test.true, ap nodes c.node-item.is, c.decreases), tt)

pub unwritable_in_list_with_holes-unwritable_in_hole-requires : goal.unwritable_in_list_with_holes-unwritable_in_hole-requires
unwritable_in_list_with_holes-unwritable_in_hole-requires t c = (omega (arith, hole_below c.args.nodes.now c.loop-node.node-index c.node-item.result c.loop-node-test.true, ap (λ n. nodes_of_part (nullable n)) c.node-item.is, c.decreases), tt)

pub has_unwritable-returns : goal.has_unwritable-returns
has_unwritable-returns t c =
    let seen = seen_by c.args.around.now in
    let own = elements_members c.node_id.result.0 (trees c.in_ok-names.names.elements.now) in
    let node = c.args.node.now in
    let below = unwritable_from (seen_in (own ++ seen) seen) 0 (parts_in node) in
    subst (λ x. IfOk c.unwritable_in.result (λ b. b ≡ x)) (
    ap (λ b. b || below) (sym c.if-holds_unwritable.false ∙ c.holds_unwritable.ensures)
    ∙ sym (unwritable_node seen own node (c.in_ok-names.ensures c.node_id.result.0 ∙ ap (λ n. members_at (kind_of node) n (parts_in node)) c.node_id.ensures))
    ) c.unwritable_in.ensures
