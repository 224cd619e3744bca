use Rattle.std.proofs.Common.{◌≡◌, sym, ap, ◌∙◌, ◌+◌, drop, Bool, ◌||◌, arith}
use Rattle.es_base.specs.Preorder.{nodes, nodes_of_part}
use Rattle.es_base.specs.Tree.{nullable}
use Rattle.es_node.specs.View.{part_of, parts_of}
use Rattle.es_node.proofs.Below.{part_below, tree_below, hole_below}
use Rattle.es_steps.specs.Printable.{stray_target_at}
use Rattle.es_owed_printable.specs.Targets.{stray_target_from, target_within}
use Rattle.es_owed_printable.proofs.Walks.{next_target}
use Rattle.es_owed_printable.proofs.stray_targets.+target.Goals as goal

pub stray_target_in-stray_target_at-requires : goal.stray_target_in-stray_target_at-requires
stray_target_in-stray_target_at-requires t c = (omega (arith, part_below c.args.parts.now c.loop-i.i c.index-parts-i.result c.loop-i-test.true, ap (λ p. nodes_of_part (part_of p)) c.index-parts-i.is, c.decreases), tt)

pub stray_target_of_list-has_stray_target-requires : goal.stray_target_of_list-has_stray_target-requires
stray_target_of_list-has_stray_target-requires t c = (omega (arith, tree_below c.args.nodes.now c.loop-node.node-index c.node-item.result c.loop-node-test.true, ap nodes c.node-item.is, c.decreases), tt)

pub stray_target_of_list_with_holes-stray_target_of_hole-requires : goal.stray_target_of_list_with_holes-stray_target_of_hole-requires
stray_target_of_list_with_holes-stray_target_of_hole-requires t c = (omega (arith, hole_below c.args.nodes.now c.loop-node.node-index c.node-item.result c.loop-node-test.true, ap (λ n. nodes_of_part (nullable n)) c.node-item.is, c.decreases), tt)

pub stray_target_in-returns-then-stray_target_at : goal.stray_target_in-returns-then-stray_target_at
stray_target_in-returns-then-stray_target_at t c =
    let within = target_within c.args.inside c.args.kind in
    let i = c.loop-i.i in
    let part = c.index-parts-i.result in
    let rest = stray_target_from within (i + 1) (parts_of (drop (i + 1) c.args.parts.now)) in
    let here : c.stray_target_at.result ≡ stray_target_at (within i) (part_of part) = c.stray_target_at.ensures ∙ ap (λ (b : Bool). stray_target_at b (part_of part)) c.target_within.ensures in
    ap (λ (b : Bool). b || rest) (sym c.if-stray_target_at.true ∙ here)
    ∙ sym (next_target within c.args.parts.now i part c.loop-i-test.true c.index-parts-i.is)
    ∙ c.loop-i.invariant

pub stray_target_in-loop-i-preserved : goal.stray_target_in-loop-i-preserved
stray_target_in-loop-i-preserved t c =
    let within = target_within c.args.inside c.args.kind in
    let i = c.loop-i.i in
    let part = c.index-parts-i.result in
    let rest = stray_target_from within (i + 1) (parts_of (drop (i + 1) c.args.parts.now)) in
    let here : c.stray_target_at.result ≡ stray_target_at (within i) (part_of part) = c.stray_target_at.ensures ∙ ap (λ (b : Bool). stray_target_at b (part_of part)) c.target_within.ensures in
    ap (λ (b : Bool). b || rest) (sym c.if-stray_target_at.false ∙ here)
    ∙ sym (next_target within c.args.parts.now i part c.loop-i-test.true c.index-parts-i.is)
    ∙ c.loop-i.invariant
