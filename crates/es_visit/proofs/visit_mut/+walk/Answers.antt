use Rattle.std.proofs.Common.{rules, refl, ◌<◌, ◌≤◌, ◌∙◌, ap, arith, length}
use Rattle.es_base.specs.Carried.{span_of, scope_number}
use Rattle.es_base.specs.Preorder.{nodes_of}
use Rattle.es_base.specs.Tree.{child, trees, nullable, nullable_trees}
use Rattle.es_node.proofs.Renumbered.{have_shapes-set}
use Rattle.es_node.specs.View.{part_of, parts_of}
use Rattle.es_visit.specs.Roles.{is_computed}
use Rattle.es_visit.specs.Visited as w
use Rattle.es_visit.proofs.Along as along
use Rattle.es_visit.proofs.Assembly as a
use Rattle.es_visit.proofs.Ready as r
use Rattle.es_visit.proofs.visit_mut.+walk.Goals as goal

pub walk_node_mut-leave-requires : goal.walk_node_mut-leave-requires
walk_node_mut-leave-requires g t c = r.stays_kind _ _ _ _ g.V.VisitMut.ready g.met.V.VisitMut.enter_ready g.met.V.VisitMut.leave_ready g.met.V.VisitMut.scope_enter_ready g.met.V.VisitMut.scope_leave_ready c.in_ok-walk_by_kind-in-Some.ensures (g.met.V.VisitMut.enter_ready _ _ _ _ _ c.in_ok-enter-in-Some.ensures c.requires)

pub walk_node_mut-returns-in_ok-leave-in-Some : goal.walk_node_mut-returns-in_ok-leave-in-Some
walk_node_mut-returns-in_ok-leave-in-Some g t c = a.role_through _ _ _ _ c.kind.result c.hook_of_role.result c.kind.ensures c.hook_of_role.ensures c.in-Some.is c.if-branch.true c.in_ok-enter-in-Some.ensures c.in_ok-walk_by_kind-in-Some.ensures c.in_ok-leave-in-Some.ensures

pub walk_node_mut-returns-else-branch : goal.walk_node_mut-returns-else-branch
walk_node_mut-returns-else-branch g t c = a.role_passed _ _ _ _ c.kind.result c.hook_of_role.result c.kind.ensures c.hook_of_role.ensures c.in-Some.is c.if-branch.false c.in_ok-enter-in-Some.ensures

pub walk_node_mut-returns-in_ok-walk_by_kind-in-None : goal.walk_node_mut-returns-in_ok-walk_by_kind-in-None
walk_node_mut-returns-in_ok-walk_by_kind-in-None g t c = a.role_plain _ _ _ _ c.kind.result c.hook_of_role.result c.kind.ensures c.hook_of_role.ensures c.in-None.is c.in_ok-walk_by_kind-in-None.ensures

pub walk_by_kind-leave-requires : goal.walk_by_kind-leave-requires
walk_by_kind-leave-requires g t c = r.stays_inside _ _ _ _ g.V.VisitMut.ready g.met.V.VisitMut.enter_ready g.met.V.VisitMut.leave_ready g.met.V.VisitMut.scope_enter_ready g.met.V.VisitMut.scope_leave_ready c.in_ok-walk_inside-in-Some.ensures (g.met.V.VisitMut.enter_ready _ _ _ _ _ c.in_ok-enter-in-Some.ensures c.requires)

pub walk_by_kind-returns-in_ok-leave-in-Some : goal.walk_by_kind-returns-in_ok-leave-in-Some
walk_by_kind-returns-in_ok-leave-in-Some g t c = a.kind_through _ _ _ _ c.kind.result c.hook_of_kind.result c.kind.ensures c.hook_of_kind.ensures c.in-Some.is c.if-branch.true c.in_ok-enter-in-Some.ensures c.in_ok-walk_inside-in-Some.ensures c.in_ok-leave-in-Some.ensures

pub walk_by_kind-returns-else-branch : goal.walk_by_kind-returns-else-branch
walk_by_kind-returns-else-branch g t c = a.kind_passed _ _ _ _ c.kind.result c.hook_of_kind.result c.kind.ensures c.hook_of_kind.ensures c.in-Some.is c.if-branch.false c.in_ok-enter-in-Some.ensures

pub walk_by_kind-returns-in_ok-walk_inside-in-None : goal.walk_by_kind-returns-in_ok-walk_inside-in-None
walk_by_kind-returns-in_ok-walk_inside-in-None g t c = a.kind_plain _ _ _ _ c.kind.result c.hook_of_kind.result c.kind.ensures c.hook_of_kind.ensures c.in-None.is c.in_ok-walk_inside-in-None.ensures

pub walk_inside-come_out-requires : goal.walk_inside-come_out-requires
walk_inside-come_out-requires g t c =
    let entered = r.scope_entered _ _ _ _ g.V.VisitMut.ready g.met.V.VisitMut.enter_ready g.met.V.VisitMut.leave_ready g.met.V.VisitMut.scope_enter_ready g.met.V.VisitMut.scope_leave_ready (scope_number c.scope_of-scope.result) c.in_ok-go_in.ensures c.requires in
    r.stays_below _ _ _ _ g.V.VisitMut.ready g.met.V.VisitMut.enter_ready g.met.V.VisitMut.leave_ready g.met.V.VisitMut.scope_enter_ready g.met.V.VisitMut.scope_leave_ready c.in_ok-walk_parts.ensures.walked entered

pub walk_inside-returns : goal.walk_inside-returns
walk_inside-returns g t c =
    let inner = c.into_contents-contents.result in
    let is = a.taken_is c.args.node.now c.take-taken.result c.kind-kind.result inner.node_id.0 (span_of inner.span) inner.semantic_id inner.parts c.take-taken.ensures.taken c.kind-kind.ensures c.into_contents-contents.ensures.view in
    a.node_inside _ _ _ _ c.args.node.now c.new.result c.kind-kind.result inner.node_id.0 (span_of inner.span) inner.semantic_id (scope_number c.scope_of-scope.result) c.is_computed-computed.result inner.parts c.walk_parts.new.parts is c.new.ensures c.scope_of-scope.ensures (c.is_computed-computed.ensures ∙ ap (λ ps. is_computed c.kind-kind.result (parts_of ps)) c.as_slice.ensures) c.in_ok-go_in.ensures c.in_ok-walk_parts.ensures.walked c.come_out.ensures

pub walk_node_or_hole-returns-in_ok-walk_node_mut-in-Some : goal.walk_node_or_hole-returns-in_ok-walk_node_mut-in-Some
walk_node_or_hole-returns-in_ok-walk_node_mut-in-Some g t c = search (rules, a.some_visited)

pub walk_node_or_hole-returns-in-None : goal.walk_node_or_hole-returns-in-None
walk_node_or_hole-returns-in-None g t c = search (rules, a.none_visited)

pub walk_part-returns-in_ok-walk_node_mut-in-Child-clause-walked : goal.walk_part-returns-in_ok-walk_node_mut-in-Child-clause-walked
walk_part-returns-in_ok-walk_node_mut-in-Child-clause-walked g t c = search (rules, a.child_visited)

pub walk_part-returns-in_ok-walk_nodes_mut-in-List-clause-walked : goal.walk_part-returns-in_ok-walk_nodes_mut-in-List-clause-walked
walk_part-returns-in_ok-walk_nodes_mut-in-List-clause-walked g t c = search (rules, a.list_visited)

pub walk_part-returns-in_ok-walk_nodes_or_holes-in-Holes-clause-walked : goal.walk_part-returns-in_ok-walk_nodes_or_holes-in-Holes-clause-walked
walk_part-returns-in_ok-walk_nodes_or_holes-in-Holes-clause-walked g t c = search (rules, a.holes_visited)

pub walk_part-returns-in_default : goal.walk_part-returns-in_default
walk_part-returns-in_default g t c = record { walked = a.bare_visited _ _ _ _ c.args.part.now c.in_default.not-Child c.in_default.not-List c.in_default.not-Holes; shape = λ sort. refl }

pub walk_nodes_mut-walk_node_mut-requires : goal.walk_nodes_mut-walk_node_mut-requires
walk_nodes_mut-walk_node_mut-requires g t c κs within =
    let inside : c.loop-i.i < length c.loop-i.nodes = omega (arith, c.loop-i-test.true, c.loop-i.auto.nodes) in
    let here = along.left_item child trees refl (λ x xs. refl) c.as_mut_slice-nodes.result.now c.loop-i.nodes c.loop-i.i c.index-nodes-i.result inside c.loop-i.invariant.3 in
    (omega (arith, here, ap (λ xs. nodes_of (trees xs)) c.as_mut_slice-nodes.ensures.value, c.decreases), (within, c.loop-i.invariant.2))

pub walk_nodes_mut-loop-i-preserved : goal.walk_nodes_mut-loop-i-preserved
walk_nodes_mut-loop-i-preserved g t c =
    let h = w.of_child c.in_ok-walk_node_mut.ensures in
    let inside : c.loop-i.i < length c.loop-i.nodes = omega (arith, c.loop-i-test.true, c.loop-i.auto.nodes) in
    (search rules, along.turn child trees refl (λ x xs. refl) _ _ (λ i s. w.no_item) (λ i s m e p q ps qs a b. w.next_item a b) _ _ _ _ c.index-nodes-i.result _ inside c.loop-i.invariant.1 h, r.stays_part _ _ _ _ g.V.VisitMut.ready g.met.V.VisitMut.enter_ready g.met.V.VisitMut.leave_ready g.met.V.VisitMut.scope_enter_ready g.met.V.VisitMut.scope_leave_ready h c.loop-i.invariant.2, along.left_next child trees refl (λ x xs. refl) _ c.loop-i.nodes c.loop-i.i c.index-nodes-i.result _ inside c.loop-i.invariant.3)

pub walk_nodes_mut-returns : goal.walk_nodes_mut-returns
walk_nodes_mut-returns g t c =
    let over : length c.loop-i.nodes ≤ c.loop-i.i = omega (arith, c.loop-i-test.false, c.loop-i.auto.nodes) in
    let all = along.done child trees refl (λ x xs. refl) _ _ (λ i s. w.no_item) (λ i s m e p q ps qs a b. w.next_item a b) _ _ _ _ over c.loop-i.invariant.1 in
    a.items_refilled _ _ _ _ trees c.args.nodes.now c.loop-i.nodes (c.loop-i.auto.nodes ∙ ap length c.as_mut_slice-nodes.ensures.value) (rw c.as_mut_slice-nodes.ensures.value at all)

pub walk_nodes_or_holes-walk_node_or_hole-requires : goal.walk_nodes_or_holes-walk_node_or_hole-requires
walk_nodes_or_holes-walk_node_or_hole-requires g t c κs within =
    let inside : c.loop-i.i < length c.loop-i.nodes = omega (arith, c.loop-i-test.true, c.loop-i.auto.nodes) in
    let here = along.left_item nullable nullable_trees refl (λ x xs. refl) c.as_mut_slice-nodes.result.now c.loop-i.nodes c.loop-i.i c.index-nodes-i.result inside c.loop-i.invariant.3 in
    (omega (arith, here, ap (λ xs. nodes_of (nullable_trees xs)) c.as_mut_slice-nodes.ensures.value, c.decreases), (within, c.loop-i.invariant.2))

pub walk_nodes_or_holes-loop-i-preserved : goal.walk_nodes_or_holes-loop-i-preserved
walk_nodes_or_holes-loop-i-preserved g t c =
    let h = c.in_ok-walk_node_or_hole.ensures in
    let inside : c.loop-i.i < length c.loop-i.nodes = omega (arith, c.loop-i-test.true, c.loop-i.auto.nodes) in
    (search rules, along.turn nullable nullable_trees refl (λ x xs. refl) _ _ (λ i s. w.no_item) (λ i s m e p q ps qs a b. w.next_item a b) _ _ _ _ c.index-nodes-i.result _ inside c.loop-i.invariant.1 h, r.stays_part _ _ _ _ g.V.VisitMut.ready g.met.V.VisitMut.enter_ready g.met.V.VisitMut.leave_ready g.met.V.VisitMut.scope_enter_ready g.met.V.VisitMut.scope_leave_ready h c.loop-i.invariant.2, along.left_next nullable nullable_trees refl (λ x xs. refl) _ c.loop-i.nodes c.loop-i.i c.index-nodes-i.result _ inside c.loop-i.invariant.3)

pub walk_nodes_or_holes-returns : goal.walk_nodes_or_holes-returns
walk_nodes_or_holes-returns g t c =
    let over : length c.loop-i.nodes ≤ c.loop-i.i = omega (arith, c.loop-i-test.false, c.loop-i.auto.nodes) in
    let all = along.done nullable nullable_trees refl (λ x xs. refl) _ _ (λ i s. w.no_item) (λ i s m e p q ps qs a b. w.next_item a b) _ _ _ _ over c.loop-i.invariant.1 in
    a.items_refilled _ _ _ _ nullable_trees c.args.nodes.now c.loop-i.nodes (c.loop-i.auto.nodes ∙ ap length c.as_mut_slice-nodes.ensures.value) (rw c.as_mut_slice-nodes.ensures.value at all)

pub walk_parts-walk_part-requires : goal.walk_parts-walk_part-requires
walk_parts-walk_part-requires g t c κs within =
    let inside : c.loop-i.i < length c.loop-i.parts = omega (arith, c.loop-i-test.true, c.loop-i.auto.parts) in
    let here = along.left_item part_of parts_of refl (λ x xs. refl) c.as_mut_slice-parts.result.now c.loop-i.parts c.loop-i.i c.index-parts-i.result inside c.loop-i.invariant.4 in
    (omega (arith, here, ap (λ xs. nodes_of (parts_of xs)) c.as_mut_slice-parts.ensures.value, c.decreases), (within, c.loop-i.invariant.2))

pub walk_parts-loop-i-preserved : goal.walk_parts-loop-i-preserved
walk_parts-loop-i-preserved g t c =
    let h = c.in_ok-walk_part.ensures.walked in
    let inside : c.loop-i.i < length c.loop-i.parts = omega (arith, c.loop-i-test.true, c.loop-i.auto.parts) in
    (search rules, along.turn part_of parts_of refl (λ x xs. refl) _ _ (λ i s. w.none) (λ i s m e p q ps qs a b. w.next a b) _ _ _ _ c.index-parts-i.result _ inside c.loop-i.invariant.1 (rw c.role_at.ensures at h), r.stays_part _ _ _ _ g.V.VisitMut.ready g.met.V.VisitMut.enter_ready g.met.V.VisitMut.leave_ready g.met.V.VisitMut.scope_enter_ready g.met.V.VisitMut.scope_leave_ready h c.loop-i.invariant.2, λ fs. have_shapes-set fs c.loop-i.parts c.loop-i.i c.index-parts-i.result c.walk_part.new.part inside c.in_ok-walk_part.ensures.shape ∙ c.loop-i.invariant.3 fs, along.left_next part_of parts_of refl (λ x xs. refl) _ c.loop-i.parts c.loop-i.i c.index-parts-i.result _ inside c.loop-i.invariant.4)

pub walk_parts-returns-clause-walked : goal.walk_parts-returns-clause-walked
walk_parts-returns-clause-walked g t c =
    let over : length c.loop-i.parts ≤ c.loop-i.i = omega (arith, c.loop-i-test.false, c.loop-i.auto.parts) in
    let all = along.done part_of parts_of refl (λ x xs. refl) _ _ (λ i s. w.none) (λ i s m e p q ps qs a b. w.next a b) _ _ _ _ over c.loop-i.invariant.1 in
    a.parts_refilled _ _ _ _ c.args.parts.now c.loop-i.parts (c.loop-i.auto.parts ∙ ap length c.as_mut_slice-parts.ensures.value) (rw c.as_mut_slice-parts.ensures.value at all)
