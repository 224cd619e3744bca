use Rattle.std.proofs.Common.{refl, ap, ◌∙◌, length, arith}
use Rattle.es_base.specs.Tree.{child, trees, nullable, nullable_trees}
use Rattle.es_node.specs.View.{part_of, parts_of}
use Rattle.es_node.proofs.Renumbered.{refilled_same, have_shapes-set}
use Rattle.es_scopes_law.specs.Written.{written_parts}
use Rattle.es_scopes_build.proofs.WriteLemmas.{step, done_list}
use Rattle.es_scopes_build.proofs.written.+written.Goals as goal

pub write_parts-loop-i-preserved : goal.write_parts-loop-i-preserved
write_parts-loop-i-preserved t c = (step parts_of part_of (λ x xs. refl) c.args.ids.now c.as_mut_slice-parts.result.now c.args.next c.loop-i.parts c.loop-i.i c.loop-i.next c.write_part-next.result c.index-parts-i.result c.write_part-next.new.part (omega (arith, c.loop-i-test.true, c.loop-i.auto.parts)) c.write_part-next.ensures.part c.write_part-next.ensures.next c.loop-i.invariant.0, λ fs. have_shapes-set fs c.loop-i.parts c.loop-i.i c.index-parts-i.result c.write_part-next.new.part (omega (arith, c.loop-i-test.true, c.loop-i.auto.parts)) c.write_part-next.ensures.shape ∙ c.loop-i.invariant.1 fs)

pub write_parts-returns-clause-parts : goal.write_parts-returns-clause-parts
write_parts-returns-clause-parts t c =
    ap parts_of (refilled_same c.args.parts.now c.loop-i.parts (c.loop-i.auto.parts ∙ ap length c.as_mut_slice-parts.ensures.value))
    ∙ done_list parts_of part_of (λ x xs. refl) refl c.args.ids.now c.as_mut_slice-parts.result.now c.args.next c.loop-i.parts c.loop-i.i c.loop-i.next (omega (arith, c.loop-i-test.false, c.loop-i.auto.parts)) c.loop-i.invariant.0
    ∙ ap (λ xs. written_parts c.args.ids.now c.args.next (parts_of xs)) c.as_mut_slice-parts.ensures.value

pub write_list-loop-i-preserved : goal.write_list-loop-i-preserved
write_list-loop-i-preserved t c = step trees child (λ x xs. refl) c.args.ids.now c.as_mut_slice-nodes.result.now c.args.next c.loop-i.nodes c.loop-i.i c.loop-i.next c.write_node-next.result c.index-nodes-i.result c.write_node-next.new.node (omega (arith, c.loop-i-test.true, c.loop-i.auto.nodes)) (ap child c.write_node-next.ensures.tree) c.write_node-next.ensures.next c.loop-i.invariant

pub write_list-returns-clause-nodes : goal.write_list-returns-clause-nodes
write_list-returns-clause-nodes t c =
    ap trees (refilled_same c.args.nodes.now c.loop-i.nodes (c.loop-i.auto.nodes ∙ ap length c.as_mut_slice-nodes.ensures.value))
    ∙ done_list trees child (λ x xs. refl) refl c.args.ids.now c.as_mut_slice-nodes.result.now c.args.next c.loop-i.nodes c.loop-i.i c.loop-i.next (omega (arith, c.loop-i-test.false, c.loop-i.auto.nodes)) c.loop-i.invariant
    ∙ ap (λ xs. written_parts c.args.ids.now c.args.next (trees xs)) c.as_mut_slice-nodes.ensures.value

pub write_list_with_holes-loop-i-preserved : goal.write_list_with_holes-loop-i-preserved
write_list_with_holes-loop-i-preserved t c = step nullable_trees nullable (λ x xs. refl) c.args.ids.now c.as_mut_slice-nodes.result.now c.args.next c.loop-i.nodes c.loop-i.i c.loop-i.next c.write_hole-next.result c.index-nodes-i.result c.write_hole-next.new.node (omega (arith, c.loop-i-test.true, c.loop-i.auto.nodes)) c.write_hole-next.ensures.node c.write_hole-next.ensures.next c.loop-i.invariant

pub write_list_with_holes-returns-clause-nodes : goal.write_list_with_holes-returns-clause-nodes
write_list_with_holes-returns-clause-nodes t c =
    ap nullable_trees (refilled_same c.args.nodes.now c.loop-i.nodes (c.loop-i.auto.nodes ∙ ap length c.as_mut_slice-nodes.ensures.value))
    ∙ done_list nullable_trees nullable (λ x xs. refl) refl c.args.ids.now c.as_mut_slice-nodes.result.now c.args.next c.loop-i.nodes c.loop-i.i c.loop-i.next (omega (arith, c.loop-i-test.false, c.loop-i.auto.nodes)) c.loop-i.invariant
    ∙ ap (λ xs. written_parts c.args.ids.now c.args.next (nullable_trees xs)) c.as_mut_slice-nodes.ensures.value
