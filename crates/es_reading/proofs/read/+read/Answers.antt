use Rattle.std.proofs.Common.{rules, refl, sym, ap, ◌∙◌, ◌+◌, map, drop, List, ◌∷◌, None, subst, arith}
use Rattle.std.proofs.lemmas.List.{drop_more, drop_all}
use Rattle.borrowed_json.specs.View.{view, items_view}
use Rattle.borrowed_json.specs.declared.value.Value.{Value}
use Rattle.es_base.specs.Table.{Field, field_of, members_of}
use Rattle.es_base.specs.Preorder.{nodes_of, nodes_of_part}
use Rattle.es_base.specs.Tree.{Node, trees, nullable_trees}
use Rattle.es_node.specs.View.{parts_of, have_shapes}
use Rattle.es_reading.specs.Members.{are_of_sorts}
use Rattle.es_reading.specs.Reading.{finds, members_in, member_of}
use Rattle.es_reading.specs.Told.{Gives, ids, item_in, values_of_items, values_there, values_at}
use Rattle.es_reading.proofs.And.{left_of}
use Rattle.es_reading.proofs.Depths.{child_falls, items_fall, item_depth}
use Rattle.es_reading.proofs.Values.{fields_within, items_there}
use Rattle.es_reading.proofs.Walk as walk
use Rattle.es_reading.proofs.read.+read.Goals as goal

-- ---- a node

pub read_node-returns-in_err-kind-clause-err : goal.read_node-returns-in_err-kind-clause-err
read_node-returns-in_err-kind-clause-err t c = search (rules, walk.no_kind c.args.reader.numbers (view c.args.value.now) c.args.spot c.args.at _ c.in_err-kind.ensures.err)

pub read_node-returns-in_err-node_id-clause-err : goal.read_node-returns-in_err-node_id-clause-err
read_node-returns-in_err-node_id-clause-err t c = search (rules, walk.no_number c.args.reader.numbers (view c.args.value.now) c.args.spot c.args.at c.in_ok-kind.kind _ c.in_ok-kind.ensures.ok c.in_err-node_id.ensures.err)

pub read_node-read_members-requires : goal.read_node-read_members-requires
read_node-read_members-requires t c =
    let d = view c.args.value.now in
    let kinds = ap (λ p. are_of_sorts d (members_of p.kind)) c.parent_of-parent.ensures in
    (omega arith, (omega (arith, fields_within c.parent_of-parent.result.kind d, c.requires), kinds ∙ left_of _ _ c.in_ok-node_id.ensures.good))

pub read_node-returns-in_err-parts-clause-err : goal.read_node-returns-in_err-parts-clause-err
read_node-returns-in_err-parts-clause-err t c = search (rules, walk.no_members_read c.args.reader.numbers (view c.args.value.now) c.args.spot c.args.at c.in_ok-kind.kind _ c.parent_of-parent.result _ c.in_ok-kind.ensures.ok c.in_ok-node_id.ensures.ok c.parent_of-parent.ensures c.in_err-parts.ensures.err)

pub read_node-returns-clause-tree : goal.read_node-returns-clause-tree
read_node-returns-clause-tree t c =
    walk.node_read c.args.reader.numbers (view c.args.value.now) c.args.spot c.args.at c.in_ok-kind.kind _ c.parent_of-parent.result (parts_of c.in_ok-parts.parts) c.new.result _ _ _
    c.in_ok-kind.ensures.ok c.in_ok-node_id.ensures.ok c.parent_of-parent.ensures c.in_ok-note.ensures c.in_ok-parts.ensures.parts
    (c.new.ensures ∙ ap (λ s. Node c.in_ok-kind.kind c.in_ok-node_id.node_id.0 s None (parts_of c.in_ok-parts.parts)) c.span_at.ensures)

pub read_node-returns-clause-bound : goal.read_node-returns-clause-bound
read_node-returns-clause-bound t c = omega (arith, fields_within c.parent_of-parent.result.kind (view c.args.value.now), c.in_ok-parts.ensures.bound)

-- ---- members

pub read_members-loop-member-init : goal.read_members-loop-member-init
read_members-loop-member-init t c = record {
  numbers = let none = ap (λ ps. nodes_of (parts_of ps)) (c.from_vec-parts.ensures ∙ c.in_ok-with_capacity.ensures.items) in omega (arith, none);
  bound = omega arith;
  good = ap (are_of_sorts (view c.args.value.now)) c.members-members.ensures ∙ c.requires.good;
  shapes = walk.shaped_none _ _ (c.from_vec-parts.ensures ∙ c.in_ok-with_capacity.ensures.items);
  begun = walk.begun_at _ _ _ (ap parts_of (c.from_vec-parts.ensures ∙ c.in_ok-with_capacity.ensures.items));
}

pub read_members-loop-member-preserved : goal.read_members-loop-member-preserved
read_members-loop-member-preserved t c =
    let d = view c.args.value.now in
    let put = walk.pushed c.loop-member.parts c.push.new.self c.in_ok-part.part c.in_ok-push.ensures.ok in
    let ms = c.members-members.result.now in
    let i = c.loop-member.member-index in
    let here = drop_more ms i _ c.loop-member-test.true in
    record {
      numbers = walk.counted_on c.args.at c.loop-member.next c.in_ok-part.after _ _ _ c.loop-member.invariant.numbers c.in_ok-part.ensures.next put;
      bound = omega (arith, ap (λ xs. values_at d (map field_of xs)) here, c.loop-member.invariant.bound, c.in_ok-part.ensures.bound);
      good = walk.good_rest d _ _ _ (ap (map field_of) here) c.loop-member.invariant.good;
      shapes = walk.shaped_on _ _ _ _ _ _ c.in_ok-part.part (ap (map field_of) here) c.loop-member.invariant.shapes c.in_ok-part.ensures.shape c.in_ok-push.ensures.ok;
      begun = walk.one_on (λ f fs. member_of (finds c.args.reader.numbers d) d c.args.parent f.name f.sort) _ _ _ _ _ _ _ _ _ _ _ _ (ap (map field_of) here) c.loop-member.invariant.begun c.in_ok-part.ensures.part c.in_ok-part.ensures.next put;
    }

pub read_members-returns-clause-parts : goal.read_members-returns-clause-parts
read_members-returns-clause-parts t c =
    let d = view c.args.value.now in
    let none = ap (map field_of) (drop_all c.loop-member.member-index c.members-members.result.now (omega (arith, c.loop-member-test.false))) in
    let whole = members_in (finds c.args.reader.numbers d) d c.args.parent (map field_of c.members-members.result.now) c.args.at in
    let all = walk.all_read (λ f fs. member_of (finds c.args.reader.numbers d) d c.args.parent f.name f.sort) _ _ whole _ _ _ none c.loop-member.invariant.begun in
    subst (λ (fs : List Field). Gives (members_in (finds c.args.reader.numbers d) d c.args.parent fs c.args.at) (parts_of c.loop-member.parts) (ids c.args.foreign.now) (ids c.loop-member.foreign)) c.members-members.ensures all

pub read_members-returns-clause-shapes : goal.read_members-returns-clause-shapes
read_members-returns-clause-shapes t c =
    let none = ap (map field_of) (drop_all c.loop-member.member-index c.members-members.result.now (omega (arith, c.loop-member-test.false))) in
    ap (λ fs. have_shapes fs c.loop-member.parts) (sym c.members-members.ensures) ∙ walk.shaped_all (map field_of c.members-members.result.now) _ c.loop-member.parts none c.loop-member.invariant.shapes

pub read_members-returns-clause-next : goal.read_members-returns-clause-next
read_members-returns-clause-next t c = c.loop-member.invariant.numbers

pub read_members-returns-clause-bound : goal.read_members-returns-clause-bound
read_members-returns-clause-bound t c = omega (arith, c.loop-member.invariant.bound, ap (values_at (view c.args.value.now)) c.members-members.ensures)

-- ---- a member

pub read_member-returns-in_ok-leaf_of-in_default : goal.read_member-returns-in_ok-leaf_of-in_default
read_member-returns-in_ok-leaf_of-in_default t c =
    let d = view c.args.value.now in
    let generated = c.in_ok-leaf_of-in_default.ensures.value in
    let none = ap nodes_of_part generated ∙ walk.leaf_nodes d c.args.member.name.now c.args.member.sort in
    let b = c.in_default in
    record {
      part = walk.alone_read _ _ _ _ _ (walk.leaf_member (finds c.args.reader.numbers d) d c.args.parent c.args.member.name.now c.args.member.sort c.args.at (walk.no_nodes c.args.member.sort b.not-Child b.not-Key b.not-Nullable b.not-List b.not-NonEmptyList b.not-ListWithHoles)) generated refl;
      shape = c.in_ok-leaf_of-in_default.ensures.shape;
      next = omega (arith, none);
      bound = omega arith;
      err = tt;
    }

-- ---- a child

pub read_child-read_node-requires : goal.read_child-read_node-requires
read_child-read_node-requires t c = (omega (arith, child_falls (view c.args.value.now) _ c.args.member.name.now c.value_at.ensures), omega (arith, ap values_there c.value_at.ensures, c.requires.room))

pub read_nullable-read_nullable_node-requires : goal.read_nullable-read_nullable_node-requires
read_nullable-read_nullable_node-requires t c = (omega (arith, child_falls (view c.args.value.now) (view c.in-Some.found.now) c.args.member.name.now (sym c.in-Some.ensures)), omega (arith, ap values_there c.in-Some.ensures, c.requires))

-- ---- lists

pub read_list-loop-i-init : goal.read_list-loop-i-init
read_list-loop-i-init t c =
    let none = c.from_vec-nodes.ensures ∙ c.in_ok-with_capacity.ensures.items in
    let nodes = ap (λ ts. nodes_of (trees ts)) none in
    record {
      numbers = omega (arith, nodes);
      bound = omega arith;
      begun = walk.begun_at _ _ _ (ap trees none);
    }

pub read_list-read_node-requires : goal.read_list-read_node-requires
read_list-read_node-requires t c =
    let d = view c.args.value.now in
    let xs = c.items_at-items.result.now in
    let here = ap (λ ys. values_of_items (items_view ys)) (drop_more xs c.loop-i.i c.index-items-i.result c.loop-i-test.true ∙ ap (λ (x : Value). x ∷ drop (c.loop-i.i + 1) xs) (sym c.index-items-i.is)) in (
      omega (arith, item_depth view xs c.loop-i.i c.index-items-i.result c.loop-i-test.true c.index-items-i.is, items_fall d c.args.member.name.now (items_view xs) c.items_at-items.ensures),
      omega (arith, here, c.loop-i.invariant.bound, items_there d c.args.member.name.now (items_view xs) c.items_at-items.ensures, c.requires.room),
    )

pub read_list-returns-in_err-node-clause-err : goal.read_list-returns-in_err-node-clause-err
read_list-returns-in_err-node-clause-err t c =
    let xs = c.items_at-items.result.now in
    let here = drop_more xs c.loop-i.i c.index-items-i.result c.loop-i-test.true ∙ ap (λ (x : Value). x ∷ drop (c.loop-i.i + 1) xs) (sym c.index-items-i.is) in
    let slot = walk.at_slot c.args.reader.numbers c.args.slots xs c.loop-i.i c.index-items-i.result _ c.slot-spot.result c.loop-i.next c.loop-i-test.true refl c.slot-spot.ensures in
    let tells = walk.item_tells c.args.reader.numbers (view c.index-items-i.result) c.args.slots.holes c.slot-spot.result c.loop-i.next _ c.requires.full c.in_err-node.ensures.err in
    let all = walk.one_fails (item_in c.args.reader.numbers c.args.slots) _ _ _ _ _ _ _ _ _ here c.loop-i.invariant.begun (walk.tells_by _ (sym slot) tells) in
    search (rules, walk.tells_by _ (walk.member_items c.args.reader.numbers (view c.args.value.now) c.args.member.name.now xs c.args.slots c.args.at c.items_at-items.ensures) (walk.tells_first _ _ _ all))

pub read_list-loop-i-preserved : goal.read_list-loop-i-preserved
read_list-loop-i-preserved t c =
    let xs = c.items_at-items.result.now in
    let put = walk.node_pushed c.loop-i.nodes c.push.new.self c.in_ok-node.node c.in_ok-push.ensures.ok in
    let here = drop_more xs c.loop-i.i c.index-items-i.result c.loop-i-test.true ∙ ap (λ (x : Value). x ∷ drop (c.loop-i.i + 1) xs) (sym c.index-items-i.is) in
    let slot = walk.at_slot c.args.reader.numbers c.args.slots xs c.loop-i.i c.index-items-i.result _ c.slot-spot.result c.loop-i.next c.loop-i-test.true refl c.slot-spot.ensures in
    let gives = walk.item_gives c.args.reader.numbers (view c.index-items-i.result) c.args.slots.holes c.slot-spot.result c.loop-i.next _ _ _ c.requires.full c.in_ok-node.ensures.tree in
    record {
      numbers = walk.counted_on c.args.at c.loop-i.next c.in_ok-node.after _ _ _ c.loop-i.invariant.numbers c.in_ok-node.ensures.next put;
      bound = omega (arith, ap (λ ys. values_of_items (items_view ys)) here, c.loop-i.invariant.bound, c.in_ok-node.ensures.bound);
      begun = walk.one_on (item_in c.args.reader.numbers c.args.slots) _ _ _ _ _ _ _ _ _ _ _ _ here c.loop-i.invariant.begun (walk.gives_by (sym slot) gives) c.in_ok-node.ensures.next put;
    }

pub read_list-returns-clause-part : goal.read_list-returns-clause-part
read_list-returns-clause-part t c =
    let xs = c.items_at-items.result.now in
    walk.list_read _ _ _ _ _ _ (walk.member_items c.args.reader.numbers (view c.args.value.now) c.args.member.name.now xs c.args.slots c.args.at c.items_at-items.ensures) refl
    (walk.all_read (item_in c.args.reader.numbers c.args.slots) _ _ _ _ _ _ (drop_all c.loop-i.i xs (omega (arith, c.loop-i-test.false))) c.loop-i.invariant.begun)

pub read_list-returns-clause-bound : goal.read_list-returns-clause-bound
read_list-returns-clause-bound t c = omega (arith, c.loop-i.invariant.bound, items_there (view c.args.value.now) c.args.member.name.now (items_view c.items_at-items.result.now) c.items_at-items.ensures)

pub read_list_with_holes-loop-i-init : goal.read_list_with_holes-loop-i-init
read_list_with_holes-loop-i-init t c =
    let none = c.from_vec-nodes.ensures ∙ c.in_ok-with_capacity.ensures.items in
    let nodes = ap (λ ts. nodes_of (nullable_trees ts)) none in
    record {
      numbers = omega (arith, nodes);
      bound = omega arith;
      begun = walk.begun_at _ _ _ (ap nullable_trees none);
    }

pub read_list_with_holes-read_nullable_node-requires : goal.read_list_with_holes-read_nullable_node-requires
read_list_with_holes-read_nullable_node-requires t c =
    let d = view c.args.value.now in
    let xs = c.items_at-items.result.now in
    let here = ap (λ ys. values_of_items (items_view ys)) (drop_more xs c.loop-i.i c.index-items-i.result c.loop-i-test.true ∙ ap (λ (x : Value). x ∷ drop (c.loop-i.i + 1) xs) (sym c.index-items-i.is)) in (
      omega (arith, item_depth view xs c.loop-i.i c.index-items-i.result c.loop-i-test.true c.index-items-i.is, items_fall d c.args.member.name.now (items_view xs) c.items_at-items.ensures),
      omega (arith, here, c.loop-i.invariant.bound, items_there d c.args.member.name.now (items_view xs) c.items_at-items.ensures, c.requires.room),
    )

pub read_list_with_holes-returns-in_err-node-clause-err : goal.read_list_with_holes-returns-in_err-node-clause-err
read_list_with_holes-returns-in_err-node-clause-err t c =
    let xs = c.items_at-items.result.now in
    let here = drop_more xs c.loop-i.i c.index-items-i.result c.loop-i-test.true ∙ ap (λ (x : Value). x ∷ drop (c.loop-i.i + 1) xs) (sym c.index-items-i.is) in
    let slot = walk.at_slot c.args.reader.numbers c.args.slots xs c.loop-i.i c.index-items-i.result _ c.slot-spot.result c.loop-i.next c.loop-i-test.true refl c.slot-spot.ensures in
    let tells = walk.hole_tells c.args.reader.numbers (view c.index-items-i.result) c.args.slots.holes c.slot-spot.result c.loop-i.next _ c.requires.holes c.in_err-node.ensures.err in
    let all = walk.one_fails (item_in c.args.reader.numbers c.args.slots) _ _ _ _ _ _ _ _ _ here c.loop-i.invariant.begun (walk.tells_by _ (sym slot) tells) in
    search (rules, walk.tells_by _ (walk.member_items c.args.reader.numbers (view c.args.value.now) c.args.member.name.now xs c.args.slots c.args.at c.items_at-items.ensures) (walk.tells_first _ _ _ all))

pub read_list_with_holes-loop-i-preserved : goal.read_list_with_holes-loop-i-preserved
read_list_with_holes-loop-i-preserved t c =
    let xs = c.items_at-items.result.now in
    let put = walk.nullable_pushed c.loop-i.nodes c.push.new.self c.in_ok-node.node c.in_ok-push.ensures.ok in
    let here = drop_more xs c.loop-i.i c.index-items-i.result c.loop-i-test.true ∙ ap (λ (x : Value). x ∷ drop (c.loop-i.i + 1) xs) (sym c.index-items-i.is) in
    let slot = walk.at_slot c.args.reader.numbers c.args.slots xs c.loop-i.i c.index-items-i.result _ c.slot-spot.result c.loop-i.next c.loop-i-test.true refl c.slot-spot.ensures in
    let gives = walk.hole_gives c.args.reader.numbers (view c.index-items-i.result) c.args.slots.holes c.slot-spot.result c.loop-i.next _ _ _ c.requires.holes c.in_ok-node.ensures.part in
    record {
      numbers = walk.counted_on c.args.at c.loop-i.next c.in_ok-node.after _ _ _ c.loop-i.invariant.numbers c.in_ok-node.ensures.next put;
      bound = omega (arith, ap (λ ys. values_of_items (items_view ys)) here, c.loop-i.invariant.bound, c.in_ok-node.ensures.bound);
      begun = walk.one_on (item_in c.args.reader.numbers c.args.slots) _ _ _ _ _ _ _ _ _ _ _ _ here c.loop-i.invariant.begun (walk.gives_by (sym slot) gives) c.in_ok-node.ensures.next put;
    }

pub read_list_with_holes-returns-clause-part : goal.read_list_with_holes-returns-clause-part
read_list_with_holes-returns-clause-part t c =
    let xs = c.items_at-items.result.now in
    walk.list_read _ _ _ _ _ _ (walk.member_items c.args.reader.numbers (view c.args.value.now) c.args.member.name.now xs c.args.slots c.args.at c.items_at-items.ensures) refl
    (walk.all_read (item_in c.args.reader.numbers c.args.slots) _ _ _ _ _ _ (drop_all c.loop-i.i xs (omega (arith, c.loop-i-test.false))) c.loop-i.invariant.begun)

pub read_list_with_holes-returns-clause-bound : goal.read_list_with_holes-returns-clause-bound
read_list_with_holes-returns-clause-bound t c = omega (arith, c.loop-i.invariant.bound, items_there (view c.args.value.now) c.args.member.name.now (items_view c.items_at-items.result.now) c.items_at-items.ensures)
