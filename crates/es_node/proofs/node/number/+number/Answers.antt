use Rattle.std.proofs.Common.{refl, ap, ◌∙◌, length, arith}
use Rattle.es_base.specs.Preorder.{renumbered_parts}
use Rattle.es_base.specs.Tree.{child, trees, nullable, nullable_trees}
use Rattle.es_node.specs.View.{part_of, parts_of}
use Rattle.es_node.proofs.Renumbered.{step, done_list, refilled_same, have_shapes-set}
use Rattle.es_node.proofs.node.number.+number.Goals as goal

pub renumber_parts-loop-i-preserved : goal.renumber_parts-loop-i-preserved
renumber_parts-loop-i-preserved t c = (step parts_of part_of (λ x xs. refl) c.args.first c.as_mut_slice-parts.result.now c.args.next c.loop-i.parts c.loop-i.i c.loop-i.next c.renumber_part-next.result c.index-parts-i.result c.renumber_part-next.new.part (omega (arith, c.loop-i-test.true, c.loop-i.auto.parts)) c.renumber_part-next.ensures.part c.renumber_part-next.ensures.next c.loop-i.invariant.0, λ fs. have_shapes-set fs c.loop-i.parts c.loop-i.i c.index-parts-i.result c.renumber_part-next.new.part (omega (arith, c.loop-i-test.true, c.loop-i.auto.parts)) c.renumber_part-next.ensures.shape ∙ c.loop-i.invariant.1 fs)

pub renumber_parts-returns-clause-parts : goal.renumber_parts-returns-clause-parts
renumber_parts-returns-clause-parts t c =
    ap parts_of (refilled_same c.args.parts.now c.loop-i.parts (c.loop-i.auto.parts ∙ ap length c.as_mut_slice-parts.ensures.value))
    ∙ done_list parts_of part_of (λ x xs. refl) refl c.args.first c.as_mut_slice-parts.result.now c.args.next c.loop-i.parts c.loop-i.i c.loop-i.next (omega (arith, c.loop-i-test.false, c.loop-i.auto.parts)) c.loop-i.invariant.0
    ∙ ap (λ xs. renumbered_parts c.args.first c.args.next (parts_of xs)) c.as_mut_slice-parts.ensures.value

pub renumber_list-loop-i-preserved : goal.renumber_list-loop-i-preserved
renumber_list-loop-i-preserved t c = step trees child (λ x xs. refl) c.args.first c.as_mut_slice-nodes.result.now c.args.next c.loop-i.nodes c.loop-i.i c.loop-i.next c.renumber_node-next.result c.index-nodes-i.result c.renumber_node-next.new.node (omega (arith, c.loop-i-test.true, c.loop-i.auto.nodes)) (ap child c.renumber_node-next.ensures.tree) c.renumber_node-next.ensures.next c.loop-i.invariant

pub renumber_list-returns-clause-nodes : goal.renumber_list-returns-clause-nodes
renumber_list-returns-clause-nodes t c =
    ap trees (refilled_same c.args.nodes.now c.loop-i.nodes (c.loop-i.auto.nodes ∙ ap length c.as_mut_slice-nodes.ensures.value))
    ∙ done_list trees child (λ x xs. refl) refl c.args.first c.as_mut_slice-nodes.result.now c.args.next c.loop-i.nodes c.loop-i.i c.loop-i.next (omega (arith, c.loop-i-test.false, c.loop-i.auto.nodes)) c.loop-i.invariant
    ∙ ap (λ xs. renumbered_parts c.args.first c.args.next (trees xs)) c.as_mut_slice-nodes.ensures.value

pub renumber_list_with_holes-loop-i-preserved : goal.renumber_list_with_holes-loop-i-preserved
renumber_list_with_holes-loop-i-preserved t c = step nullable_trees nullable (λ x xs. refl) c.args.first c.as_mut_slice-nodes.result.now c.args.next c.loop-i.nodes c.loop-i.i c.loop-i.next c.renumber_hole-next.result c.index-nodes-i.result c.renumber_hole-next.new.node (omega (arith, c.loop-i-test.true, c.loop-i.auto.nodes)) c.renumber_hole-next.ensures.node c.renumber_hole-next.ensures.next c.loop-i.invariant

pub renumber_list_with_holes-returns-clause-nodes : goal.renumber_list_with_holes-returns-clause-nodes
renumber_list_with_holes-returns-clause-nodes t c =
    ap nullable_trees (refilled_same c.args.nodes.now c.loop-i.nodes (c.loop-i.auto.nodes ∙ ap length c.as_mut_slice-nodes.ensures.value))
    ∙ done_list nullable_trees nullable (λ x xs. refl) refl c.args.first c.as_mut_slice-nodes.result.now c.args.next c.loop-i.nodes c.loop-i.i c.loop-i.next (omega (arith, c.loop-i-test.false, c.loop-i.auto.nodes)) c.loop-i.invariant
    ∙ ap (λ xs. renumbered_parts c.args.first c.args.next (nullable_trees xs)) c.as_mut_slice-nodes.ensures.value
