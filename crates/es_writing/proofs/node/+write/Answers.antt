use Rattle.std.proofs.Common.{rules, ◌≡◌, subst, ap, ◌∙◌, OnOk, map, length, length-append, List, arith}
use Rattle.std.proofs.lemmas.Slice.Zip.{zip_turn, zip_end}
use Rattle.serde_json.specs.Data.{array}
use Rattle.serde_json.specs.View.{members_view}
use Rattle.es_base.specs.Table.{field_of}
use Rattle.es_base.specs.Tree.{trees, nullable_trees}
use Rattle.es_writing.specs.Writing.{Entry, put_all}
use Rattle.es_writing.proofs.Preorder.{row_on, row_done, nodes_on, nodes_done, nullable_on, nullable_done}
use Rattle.es_writing.proofs.Parts.{short_row}
use Rattle.es_writing.proofs.Sizes.{parts_size, size_of_tree, size_of_child, size_of_list, size_of_holes, size_of_item, size_of_node, size_of_nullable_node, size_of_nullable}
use Rattle.es_writing.proofs.Whole.{node_written}
use Rattle.es_writing.proofs.node.+write.Goals as goal

-- ---- each step is to something smaller

pub write_node-put_row-requires : goal.write_node-put_row-requires
write_node-put_row-requires t c = omega (arith, size_of_tree c.args.node.now c.parts-parts.result.now c.parts-parts.ensures.list)

pub put_fields-put_part-requires : goal.put_fields-put_part-requires
put_fields-put_part-requires t c =
    let turn = zip_turn c.args.members.now c.args.parts.now c.loop-member.yielded _ _ c.next.new.self _ (search rules) (search rules) c.loop-member.yielded_by (c.in-Some.member, c.in-Some.part) c.in-Some.is c.next.ensures.steps in
    let small = size_of_item c.args.parts.now (length c.loop-member.yielded) c.in-Some.part.now turn.1 (turn.3 c.in-Some.part.now) in
    omega (arith, small)

pub put_part-write_node-requires : goal.put_part-write_node-requires
put_part-write_node-requires t c = omega (arith, size_of_child c.args.part.now c.in-Child.node c.in-Child.is)

pub put_part-write_nodes-requires : goal.put_part-write_nodes-requires
put_part-write_nodes-requires t c = omega (arith, size_of_list c.args.part.now c.in-List.nodes c.in-List.is, ap (λ xs. parts_size (trees xs)) c.as_slice.ensures)

pub put_part-write_nullable_nodes-requires : goal.put_part-write_nullable_nodes-requires
put_part-write_nullable_nodes-requires t c = omega (arith, size_of_holes c.args.part.now c.in-Holes.nodes c.in-Holes.is, ap (λ xs. parts_size (nullable_trees xs)) c.as_slice-in-Holes.ensures)

pub write_nodes-write_node-requires : goal.write_nodes-write_node-requires
write_nodes-write_node-requires t c =
    let small = size_of_node c.args.nodes.now c.loop-node.node-index c.node-item.result c.loop-node-test.true (search rules) in
    omega (arith, small)

pub write_nullable_nodes-write_nullable_node-requires : goal.write_nullable_nodes-write_nullable_node-requires
write_nullable_nodes-write_nullable_node-requires t c =
    let small = size_of_nullable_node c.args.nodes.now c.loop-node.node-index c.node-item.result c.loop-node-test.true (search rules) in
    omega (arith, small)

pub write_nullable_node-write_node-requires : goal.write_nullable_node-write_node-requires
write_nullable_node-write_node-requires t c = omega (arith, size_of_nullable c.args.node.now c.in-Some.node c.in-Some.is)

-- ---- a node

pub write_node-returns : goal.write_node-returns
write_node-returns t c =
    c.from.ensures
    ∙ node_written c.args.node.now _ _ _ _ _ _ _ _ _ _ _ _ c.kind-kind.ensures c.node_id.ensures c.span.ensures c.parts-parts.ensures.list (ap members_view c.new-object.ensures.empty) c.in_ok-type_of.ensures c.in_ok-put_value.ensures c.number_of.ensures c.in_ok-put_value-2.ensures
    c.in_ok-put_row.ensures c.in_ok-put_more.ensures c.in_ok-put_span.ensures

pub put_row-returns-in_default-parts : goal.put_row-returns-in_default-parts
put_row-returns-in_default-parts t c =
    subst (λ (es : List Entry). OnOk c.put_fields.result (members_view c.put_fields.new.object.entries ≡ put_all (members_view c.args.object.now.entries) es))
    (short_row c.args.kind c.args.parts.now (map field_of c.members.result.now) c.in-TemplateElement.is c.in_default-parts.len_below c.members.ensures) c.put_fields.ensures

-- ---- the members of a row

pub put_fields-loop-member-preserved : goal.put_fields-loop-member-preserved
put_fields-loop-member-preserved t c =
    let turn = zip_turn c.args.members.now c.args.parts.now c.loop-member.yielded _ _ c.next.new.self _ (search rules) (search rules) c.loop-member.yielded_by (c.in-Some.member, c.in-Some.part) c.in-Some.is c.next.ensures.steps in
    let n = length c.loop-member.yielded in
    ((tt, tt), tt, row_on _ _ c.args.members.now c.args.parts.now n _ c.in-Some.member.now c.in-Some.part.now turn.0 turn.1 (turn.2 c.in-Some.member.now) (turn.3 c.in-Some.part.now) (length-append c.loop-member.yielded _) c.in_ok-put_part.ensures ∙ c.loop-member.invariant.2)

pub put_fields-returns : goal.put_fields-returns
put_fields-returns t c =
    let ended = zip_end c.args.members.now c.args.parts.now c.loop-member.yielded _ _ c.next.new.self _ (search rules) (search rules) c.loop-member.yielded_by c.in-None.is c.next.ensures.steps in
    row_done _ c.args.members.now c.args.parts.now _ ended ∙ c.loop-member.invariant.2

-- ---- lists

pub write_nodes-loop-node-preserved : goal.write_nodes-loop-node-preserved
write_nodes-loop-node-preserved t c =
    nodes_on c.loop-node.items.items c.push.new.self.items c.in_ok-write_node.field-0 c.args.nodes.now c.loop-node.node-index c.node-item.result c.loop-node-test.true (search rules) c.in_ok-push.ensures.items c.in_ok-write_node.ensures
    ∙ c.loop-node.invariant

pub write_nodes-returns : goal.write_nodes-returns
write_nodes-returns t c = c.from.ensures ∙ ap array (nodes_done c.loop-node.items.items c.args.nodes.now c.loop-node.node-index _ (omega (arith, c.loop-node-test.false)) c.loop-node.invariant)

pub write_nullable_nodes-loop-node-preserved : goal.write_nullable_nodes-loop-node-preserved
write_nullable_nodes-loop-node-preserved t c =
    nullable_on c.loop-node.items.items c.push.new.self.items c.in_ok-write_nullable_node.field-0 c.args.nodes.now c.loop-node.node-index c.node-item.result c.loop-node-test.true (search rules) c.in_ok-push.ensures.items c.in_ok-write_nullable_node.ensures
    ∙ c.loop-node.invariant

pub write_nullable_nodes-returns : goal.write_nullable_nodes-returns
write_nullable_nodes-returns t c = c.from.ensures ∙ ap array (nullable_done c.loop-node.items.items c.args.nodes.now c.loop-node.node-index _ (omega (arith, c.loop-node-test.false)) c.loop-node.invariant)
