use Rattle.std.proofs.Common.{rules, refl, ◌<◌, ◌≤◌, arith, ap, ◌∙◌, length}
use Rattle.es_base.specs.Carried.{span_of}
use Rattle.es_base.specs.Table.{members_of}
use Rattle.es_base.specs.Tree.{child, trees, nullable, nullable_trees}
use Rattle.es_base.specs.declared.table.Place.{Place}
use Rattle.es_base.specs.declared.table.Sort.{Sort}
use Rattle.es_ctx.specs.Ancestors.{has_statements}
use Rattle.es_ctx.specs.Stores.{stored}
use Rattle.es_node.proofs.Renumbered.{have_shapes-set}
use Rattle.es_node.specs.View.{part_of, parts_of}
use Rattle.es_visit.proofs.Along as along
use Rattle.es_walk.specs.Given.{Ids, of_nodes}
use Rattle.es_walk.specs.Laws as laws
use Rattle.es_walk.specs.Placing.{stored-opened, open_pays}
use Rattle.es_walk.specs.Steps.{OpensPart}
use Rattle.es_walk.specs.Traversed as w
use Rattle.es_walk.specs.Weight.{total_of}
use Rattle.es_walk.proofs.Assembly as a
use Rattle.es_walk.proofs.Load as load
use Rattle.es_walk.proofs.Walked as walked
use Rattle.es_walk.proofs.walk.+walk.Goals as goal

pub walk_node-walk_parts-requires : goal.walk_node-walk_parts-requires
walk_node-walk_parts-requires g t c κs within =
    let inner = c.into_contents-contents.result in
    let is = a.taken_is c.enter.new.node c.take-taken.result c.kind-kind.result inner.node_id.0 (span_of inner.span) inner.semantic_id inner.parts c.take-taken.ensures.taken c.kind-kind.ensures c.into_contents-contents.ensures.view in
    let weighs = a.total-node g.T.Traverse.weight c.enter.new.node c.kind-kind.result inner.node_id.0 (span_of inner.span) inner.semantic_id inner.parts is in
    let some = g.met.T.Traverse.weighs_something c.kind-kind.result in
    let entered = g.met.T.Traverse.enter_pays _ of_nodes _ _ _ _ c.in_ok-goes.ensures in
    let given = (g.met.T.Traverse.enter_keeps_place _ _ _ _ _ c.in_ok-goes.ensures).given of_nodes in (
      omega (arith, weighs, some, entered, given, c.decreases),
      (
        within,
        (
          g.met.T.Traverse.enter_ready _ _ _ _ _ c.in_ok-goes.ensures c.requires.ready,
          (
            λ ids. omega (arith, weighs, g.met.T.Traverse.enter_pays _ ids _ _ _ _ c.in_ok-goes.ensures, c.requires.bound ids),
            a.shapes_told c.enter.new.node c.take-taken.result c.in_ok-parent.parent inner.parts c.take-taken.ensures.taken c.in_ok-parent.ensures c.into_contents-contents.ensures.shapes,
          ),
        ),
      ),
    )

pub walk_node-new-requires : goal.walk_node-new-requires
walk_node-new-requires g t c =
    let inner = c.into_contents-contents.result in
    a.shaped_again c.enter.new.node c.take-taken.result c.in_ok-parent.parent c.kind-kind.result inner.semantic_id c.walk_parts.new.parts c.take-taken.ensures.taken c.in_ok-parent.ensures c.kind-kind.ensures c.into_contents-contents.ensures.semantic_id c.in_ok-walk_parts.ensures.shapes

pub walk_node-exit-requires-clause-ready : goal.walk_node-exit-requires-clause-ready
walk_node-exit-requires-clause-ready g t c = laws.stays_parts _ _ _ _ g.T.Traverse.ready g.met.T.Traverse.enter_ready g.met.T.Traverse.leave_ready g.met.T.Traverse.open_ready g.met.T.Traverse.close_ready c.in_ok-walk_parts.ensures.walked (g.met.T.Traverse.enter_ready _ _ _ _ _ c.in_ok-goes.ensures c.requires.ready)

pub walk_node-exit-requires-clause-bound : goal.walk_node-exit-requires-clause-bound
walk_node-exit-requires-clause-bound g t c =
    let inner = c.into_contents-contents.result in
    let is = a.taken_is c.enter.new.node c.take-taken.result c.kind-kind.result inner.node_id.0 (span_of inner.span) inner.semantic_id inner.parts c.take-taken.ensures.taken c.kind-kind.ensures c.into_contents-contents.ensures.view in
    let before = a.total-node g.T.Traverse.weight c.enter.new.node c.kind-kind.result inner.node_id.0 (span_of inner.span) inner.semantic_id inner.parts is in
    let after = a.heft-node g.T.Traverse.weight c.new.result c.kind-kind.result inner.node_id.0 (span_of inner.span) inner.semantic_id c.walk_parts.new.parts c.new.ensures in
    let entered = λ (ids : Ids). g.met.T.Traverse.enter_pays _ ids _ _ _ _ c.in_ok-goes.ensures in
    let pays = λ (ids : Ids). walked.parts_pay g.T.Traverse.enters g.T.Traverse.leaves g.T.Traverse.weight g.T.Traverse.spare g.met.T.Traverse.weighs_something g.met.T.Traverse.enter_pays g.met.T.Traverse.leave_pays g.met.T.Traverse.enter_keeps_place g.met.T.Traverse.leave_keeps_place ids c.in_ok-walk_parts.ensures.walked in
    λ ids. omega (arith, entered ids, pays ids, before, after, c.requires.bound ids)

pub walk_node-returns-then-goes : goal.walk_node-returns-then-goes
walk_node-returns-then-goes g t c =
    let inner = c.into_contents-contents.result in
    let is = a.taken_is c.enter.new.node c.take-taken.result c.kind-kind.result inner.node_id.0 (span_of inner.span) inner.semantic_id inner.parts c.take-taken.ensures.taken c.kind-kind.ensures c.into_contents-contents.ensures.view in
    a.node_walked _ _ _ _ c.enter.new.node c.new.result c.in_ok-parent.parent c.kind-kind.result inner.node_id.0 (span_of inner.span) inner.semantic_id inner.parts c.walk_parts.new.parts is c.new.ensures c.in_ok-parent.ensures c.if-goes.true c.in_ok-goes.ensures c.in_ok-walk_parts.ensures.walked c.in_ok-exit.ensures

pub walk_node-returns : goal.walk_node-returns
walk_node-returns g t c = a.node_passed _ _ _ _ c.if-goes.false c.in_ok-goes.ensures

pub walk_member-walk_part-requires : goal.walk_member-walk_part-requires
walk_member-walk_part-requires g t c κs within =
    let same = ap stored c.in_ok-open.ensures.lists ∙ stored-opened (has_statements c.args.parent.now.kind c.args.at) (part_of c.args.part.now) c.args.ctx.now.lists in
    let opens : OpensPart (c.args.transform.now, c.args.ctx.now) c.args.parent.now c.args.at (part_of c.args.part.now) (c.args.transform.now, c.open.new.self) = record { transform = refl; next = c.in_ok-open.ensures.next; path = c.in_ok-open.ensures.path; lists = c.in_ok-open.ensures.lists; outcome = c.in_ok-open.ensures.outcome } in (
      omega (arith, same, c.decreases),
      (
        within,
        (
          g.met.T.Traverse.open_ready _ _ _ _ _ opens c.requires.ready,
          λ ids. omega (arith, open_pays g.T.Traverse.spare ids _ _ _ _ _ opens, c.requires.bound ids),
        ),
      ),
    )

pub walk_member-close-requires : goal.walk_member-close-requires
walk_member-close-requires g t c = λ is. c.in_ok-walk_part.ensures.shape (Sort.List Place.Statement) ∙ c.requires.shape is

pub walk_member-returns-clause-walked : goal.walk_member-returns-clause-walked
walk_member-returns-clause-walked g t c = w.between (record { transform = refl; next = c.in_ok-open.ensures.next; path = c.in_ok-open.ensures.path; lists = c.in_ok-open.ensures.lists; outcome = c.in_ok-open.ensures.outcome }) c.in_ok-walk_part.ensures.walked (record { transform = refl; next = c.in_ok-close.ensures.next; path = c.in_ok-close.ensures.path; lists = c.in_ok-close.ensures.lists; outcome = c.in_ok-close.ensures.outcome; part = c.in_ok-close.ensures.part })

pub walk_member-returns-clause-shape : goal.walk_member-returns-clause-shape
walk_member-returns-clause-shape g t c = λ sort. c.in_ok-close.ensures.shape sort ∙ c.in_ok-walk_part.ensures.shape sort

pub walk_nodes-walk_node-requires : goal.walk_nodes-walk_node-requires
walk_nodes-walk_node-requires g t c κs within =
    let T = g.T.Traverse in
    let inside : c.loop-i.i < length c.loop-i.all = omega (arith, c.loop-i-test.true, c.loop-i.auto.all) in
    let here = load.item_load child trees refl (λ x xs. refl) T.weight c.loop-i.all c.loop-i.i c.index-all-i.result inside in
    let before = c.loop-i.invariant.2 in
    let same = ap (λ xs. total_of T.weight (trees xs)) c.as_mut_slice-all.ensures.value in (
      omega (arith, here, before.pays of_nodes, before.given, same, c.decreases),
      (
        within,
        (
          c.loop-i.invariant.3,
          λ ids. omega (arith, here, before.pays ids, same, c.requires.bound ids),
        ),
      ),
    )

pub walk_nodes-loop-i-preserved : goal.walk_nodes-loop-i-preserved
walk_nodes-loop-i-preserved g t c =
    let T = g.T.Traverse in
    let met = g.met.T.Traverse in
    let h = w.item c.in_ok-walk_node.ensures in
    let inside : c.loop-i.i < length c.loop-i.all = omega (arith, c.loop-i-test.true, c.loop-i.auto.all) in
    let pays = λ (ids : Ids). walked.item_pays T.enters T.leaves T.weight T.spare met.weighs_something met.enter_pays met.leave_pays met.enter_keeps_place met.leave_keeps_place ids h in
    let place = walked.item_place T.enters T.leaves T.weight T.spare met.weighs_something met.enter_pays met.leave_pays met.enter_keeps_place met.leave_keeps_place h in
    let here = load.item_load child trees refl (λ x xs. refl) T.weight c.loop-i.all c.loop-i.i c.index-all-i.result inside in
    let after = load.set_load child trees refl (λ x xs. refl) T.weight c.loop-i.all c.loop-i.i c.walk_node.new.node inside in
    let before = c.loop-i.invariant.2 in
    (search rules, along.turn child trees refl (λ x xs. refl) _ _ (λ i s. w.no_item) (λ i s m e p q ps qs a b. w.next_item a b) _ _ _ _ c.index-all-i.result _ inside c.loop-i.invariant.1 h, record { pays = λ ids. omega (arith, pays ids, here, after, before.pays ids); given = omega (arith, place.given of_nodes, before.given) }, laws.stays_item _ _ _ _ T.ready met.enter_ready met.leave_ready met.open_ready met.close_ready h c.loop-i.invariant.3)

pub walk_nodes-returns : goal.walk_nodes-returns
walk_nodes-returns g t c =
    let over : length c.loop-i.all ≤ c.loop-i.i = omega (arith, c.loop-i-test.false, c.loop-i.auto.all) in
    let all = along.done child trees refl (λ x xs. refl) _ _ (λ i s. w.no_item) (λ i s m e p q ps qs a b. w.next_item a b) _ _ _ _ over c.loop-i.invariant.1 in
    a.items_refilled _ _ _ _ trees c.args.nodes.now c.loop-i.all (c.loop-i.auto.all ∙ ap length c.as_mut_slice-all.ensures.value) (rw c.as_mut_slice-all.ensures.value at all)

pub walk_nodes_or_holes-walk_node_or_hole-requires : goal.walk_nodes_or_holes-walk_node_or_hole-requires
walk_nodes_or_holes-walk_node_or_hole-requires g t c κs within =
    let T = g.T.Traverse in
    let inside : c.loop-i.i < length c.loop-i.all = omega (arith, c.loop-i-test.true, c.loop-i.auto.all) in
    let here = load.item_load nullable nullable_trees refl (λ x xs. refl) T.weight c.loop-i.all c.loop-i.i c.index-all-i.result inside in
    let before = c.loop-i.invariant.2 in
    let same = ap (λ xs. total_of T.weight (nullable_trees xs)) c.as_mut_slice-all.ensures.value in (
      omega (arith, here, before.pays of_nodes, before.given, same, c.decreases),
      (
        within,
        (
          c.loop-i.invariant.3,
          λ ids. omega (arith, here, before.pays ids, same, c.requires.bound ids),
        ),
      ),
    )

pub walk_nodes_or_holes-loop-i-preserved : goal.walk_nodes_or_holes-loop-i-preserved
walk_nodes_or_holes-loop-i-preserved g t c =
    let T = g.T.Traverse in
    let met = g.met.T.Traverse in
    let h = c.in_ok-walk_node_or_hole.ensures in
    let inside : c.loop-i.i < length c.loop-i.all = omega (arith, c.loop-i-test.true, c.loop-i.auto.all) in
    let pays = λ (ids : Ids). walked.item_pays T.enters T.leaves T.weight T.spare met.weighs_something met.enter_pays met.leave_pays met.enter_keeps_place met.leave_keeps_place ids h in
    let place = walked.item_place T.enters T.leaves T.weight T.spare met.weighs_something met.enter_pays met.leave_pays met.enter_keeps_place met.leave_keeps_place h in
    let here = load.item_load nullable nullable_trees refl (λ x xs. refl) T.weight c.loop-i.all c.loop-i.i c.index-all-i.result inside in
    let after = load.set_load nullable nullable_trees refl (λ x xs. refl) T.weight c.loop-i.all c.loop-i.i c.walk_node_or_hole.new.node inside in
    let before = c.loop-i.invariant.2 in
    (search rules, along.turn nullable nullable_trees refl (λ x xs. refl) _ _ (λ i s. w.no_item) (λ i s m e p q ps qs a b. w.next_item a b) _ _ _ _ c.index-all-i.result _ inside c.loop-i.invariant.1 h, record { pays = λ ids. omega (arith, pays ids, here, after, before.pays ids); given = omega (arith, place.given of_nodes, before.given) }, laws.stays_item _ _ _ _ T.ready met.enter_ready met.leave_ready met.open_ready met.close_ready h c.loop-i.invariant.3)

pub walk_nodes_or_holes-returns : goal.walk_nodes_or_holes-returns
walk_nodes_or_holes-returns g t c =
    let over : length c.loop-i.all ≤ c.loop-i.i = omega (arith, c.loop-i-test.false, c.loop-i.auto.all) in
    let all = along.done nullable nullable_trees refl (λ x xs. refl) _ _ (λ i s. w.no_item) (λ i s m e p q ps qs a b. w.next_item a b) _ _ _ _ over c.loop-i.invariant.1 in
    a.items_refilled _ _ _ _ nullable_trees c.args.nodes.now c.loop-i.all (c.loop-i.auto.all ∙ ap length c.as_mut_slice-all.ensures.value) (rw c.as_mut_slice-all.ensures.value at all)

pub walk_parts-walk_member-requires : goal.walk_parts-walk_member-requires
walk_parts-walk_member-requires g t c κs within =
    let T = g.T.Traverse in
    let inside : c.loop-i.i < length c.loop-i.all = omega (arith, c.loop-i-test.true, c.loop-i.auto.all) in
    let here = load.item_load part_of parts_of refl (λ x xs. refl) T.weight c.loop-i.all c.loop-i.i c.index-all-i.result inside in
    let before = c.loop-i.invariant.2 in
    let same = ap (λ xs. total_of T.weight (parts_of xs)) c.as_mut_slice-all.ensures.value in (
      omega (arith, here, before.pays of_nodes, before.given, same, c.decreases),
      (
        within,
        (
          c.loop-i.invariant.3,
          (
            λ ids. omega (arith, here, before.pays ids, same, c.requires.bound ids),
            a.statements_shape (members_of c.args.parent.now.kind) c.loop-i.all c.loop-i.i c.index-all-i.result inside c.loop-i.invariant.4,
          ),
        ),
      ),
    )

pub walk_parts-loop-i-preserved : goal.walk_parts-loop-i-preserved
walk_parts-loop-i-preserved g t c =
    let T = g.T.Traverse in
    let met = g.met.T.Traverse in
    let h = c.in_ok-walk_member.ensures.walked in
    let inside : c.loop-i.i < length c.loop-i.all = omega (arith, c.loop-i-test.true, c.loop-i.auto.all) in
    let pays = λ (ids : Ids). walked.member_pays T.enters T.leaves T.weight T.spare met.weighs_something met.enter_pays met.leave_pays met.enter_keeps_place met.leave_keeps_place ids h in
    let place = walked.member_place T.enters T.leaves T.weight T.spare met.weighs_something met.enter_pays met.leave_pays met.enter_keeps_place met.leave_keeps_place h in
    let here = load.item_load part_of parts_of refl (λ x xs. refl) T.weight c.loop-i.all c.loop-i.i c.index-all-i.result inside in
    let after = load.set_load part_of parts_of refl (λ x xs. refl) T.weight c.loop-i.all c.loop-i.i c.walk_member.new.part inside in
    let before = c.loop-i.invariant.2 in
    (search rules, along.turn part_of parts_of refl (λ x xs. refl) _ _ (λ i s. w.none) (λ i s m e p q ps qs a b. w.next a b) _ _ _ _ c.index-all-i.result _ inside c.loop-i.invariant.1 h, record { pays = λ ids. omega (arith, pays ids, here, after, before.pays ids); given = omega (arith, place.given of_nodes, before.given) }, laws.stays_member _ _ _ _ T.ready met.enter_ready met.leave_ready met.open_ready met.close_ready h c.loop-i.invariant.3, have_shapes-set (members_of c.args.parent.now.kind) c.loop-i.all c.loop-i.i c.index-all-i.result c.walk_member.new.part inside c.in_ok-walk_member.ensures.shape ∙ c.loop-i.invariant.4)

pub walk_parts-returns-clause-walked : goal.walk_parts-returns-clause-walked
walk_parts-returns-clause-walked g t c =
    let over : length c.loop-i.all ≤ c.loop-i.i = omega (arith, c.loop-i-test.false, c.loop-i.auto.all) in
    let all = along.done part_of parts_of refl (λ x xs. refl) _ _ (λ i s. w.none) (λ i s m e p q ps qs a b. w.next a b) _ _ _ _ over c.loop-i.invariant.1 in
    a.parts_refilled _ _ _ _ c.args.parts.now c.loop-i.all (c.loop-i.auto.all ∙ ap length c.as_mut_slice-all.ensures.value) (rw c.as_mut_slice-all.ensures.value at all)

pub walk_node_or_hole-returns-in_ok-walk_node-in-Some : goal.walk_node_or_hole-returns-in_ok-walk_node-in-Some
walk_node_or_hole-returns-in_ok-walk_node-in-Some g t c = search (rules, a.some_walked)

pub walk_node_or_hole-returns-in-None : goal.walk_node_or_hole-returns-in-None
walk_node_or_hole-returns-in-None g t c = search (rules, a.none_walked)

pub walk_part-returns-in_ok-walk_node-in-Child-clause-walked : goal.walk_part-returns-in_ok-walk_node-in-Child-clause-walked
walk_part-returns-in_ok-walk_node-in-Child-clause-walked g t c = search (rules, a.child_walked)

pub walk_part-returns-in_ok-walk_nodes-in-List-clause-walked : goal.walk_part-returns-in_ok-walk_nodes-in-List-clause-walked
walk_part-returns-in_ok-walk_nodes-in-List-clause-walked g t c = search (rules, a.list_walked)

pub walk_part-returns-in_ok-walk_nodes_or_holes-in-Holes-clause-walked : goal.walk_part-returns-in_ok-walk_nodes_or_holes-in-Holes-clause-walked
walk_part-returns-in_ok-walk_nodes_or_holes-in-Holes-clause-walked g t c = search (rules, a.holes_walked)

pub walk_part-returns-in_default : goal.walk_part-returns-in_default
walk_part-returns-in_default g t c = record { walked = a.bare_walked _ _ _ _ c.args.part.now c.in_default.not-Child c.in_default.not-List c.in_default.not-Holes; shape = λ sort. refl }
