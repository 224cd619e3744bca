use Rattle.std.proofs.Common.{rules, ap, ap₂, sym, ◌∙◌, ◌++◌, [], ◌∷◌, arith}
use Rattle.std.proofs.lemmas.Result.{on_ok_weaker}
use Rattle.json.specs.Token.{Token}
use Rattle.es_base.specs.Table.{members_of}
use Rattle.es_base.specs.Tree.{trees, nullable_trees}
use Rattle.es_node.specs.View.{kind_of}
use Rattle.es_writing.specs.Slots.{data_at, field_at, member_tokens, slot_data, slots_of, slots_tokens}
use Rattle.es_writing.proofs.Places.{data_here, data_past}
use Rattle.es_writing.proofs.Rows.{node_tokens}
use Rattle.es_writing.proofs.Sizes.{parts_size, size_of_item, size_of_node, size_of_nullable_node}
use Rattle.es_writing.proofs.Tokens.{slots_done, nodes_done, nodes_written, none_written, nullable_done, closed}
use Rattle.es_writing.proofs.text.+text.Goals as goal

-- ---- each step is to something smaller

pub write_at-write_part-requires : goal.write_at-write_part-requires
write_at-write_part-requires t c =
    let small = size_of_item c.parts-parts.result.now c.args.at c.index-parts-at.result c.if-at-parts.true c.index-parts-at.is in
    (omega (arith, small, ap parts_size c.parts-parts.ensures.list), tt)

pub write_nodes-write_node-requires : goal.write_nodes-write_node-requires
write_nodes-write_node-requires t c =
    let small = size_of_node c.args.nodes.now c.loop-node.node-index c.node-item.result c.loop-node-test.true (search rules) in
    (omega (arith, small), tt)

pub write_nullable_nodes-write_nullable_node-requires : goal.write_nullable_nodes-write_nullable_node-requires
write_nullable_nodes-write_nullable_node-requires t c =
    let small = size_of_nullable_node c.args.nodes.now c.loop-node.node-index c.node-item.result c.loop-node-test.true (search rules) in
    (omega (arith, small), tt)

-- ---- a node

pub write_node-returns-clause-ok : goal.write_node-returns-clause-ok
write_node-returns-clause-ok t c =
    let n = c.args.node.now in
    let ss = c.slots-slot-items.result.now in
    let past = slots_done (kind_of n) (slot_data n) ss c.loop-slot.slot-index _ _ (omega (arith, c.loop-slot-test.false)) c.loop-slot.invariant.tokens in
    let table = ap (λ xs. Token.begin_object ∷ (slots_tokens (kind_of n) (slot_data n) xs ++ Token.end_object ∷ [])) (c.slots-slot-items.ensures ∙ ap slots_of c.kind.ensures) in
    let all = table ∙ node_tokens n c.parts-parts.result.now c.parts-parts.ensures.list c.parts-parts.ensures.shapes in
    on_ok_weaker c.end_object.result (λ e. closed _ _ _ _ _ _ _ c.in_ok-begin_object.ensures.ok past e ∙ ap (λ ts. c.args.out.now.tokens ++ ts) all) c.end_object.ensures.ok

-- ---- a part

pub write_at-returns-then-at-parts-clause-ok : goal.write_at-returns-then-at-parts-clause-ok
write_at-returns-then-at-parts-clause-ok t c =
    let named = c.name_at.ensures ∙ ap (λ k. field_at c.args.at (members_of k)) c.kind.ensures in
    let there = ap (data_at c.args.at) c.parts-parts.ensures.list ∙ data_here c.parts-parts.result.now c.args.at c.index-parts-at.result c.if-at-parts.true c.index-parts-at.is in
    on_ok_weaker c.write_part.result (λ e. e ∙ ap₂ (λ k o. c.args.out.now.tokens ++ member_tokens k o) named (sym there)) c.write_part.ensures.ok

pub write_at-returns-else-at-parts-clause-ok : goal.write_at-returns-else-at-parts-clause-ok
write_at-returns-else-at-parts-clause-ok t c =
    none_written _ _ _ (ap (data_at c.args.at) c.parts-parts.ensures.list ∙ data_past c.parts-parts.result.now c.args.at (omega (arith, c.if-at-parts.false)))

-- ---- lists

pub write_nodes-returns-clause-ok : goal.write_nodes-returns-clause-ok
write_nodes-returns-clause-ok t c =
    let past = nodes_done c.args.nodes.now c.loop-node.node-index _ _ (omega (arith, c.loop-node-test.false)) c.loop-node.invariant.tokens in
    on_ok_weaker c.end_array.result (nodes_written _ _ _ _ (trees c.args.nodes.now) c.in_ok-begin_array.ensures.ok past) c.end_array.ensures.ok

pub write_nullable_nodes-returns-clause-ok : goal.write_nullable_nodes-returns-clause-ok
write_nullable_nodes-returns-clause-ok t c =
    let past = nullable_done c.args.nodes.now c.loop-node.node-index _ _ (omega (arith, c.loop-node-test.false)) c.loop-node.invariant.tokens in
    on_ok_weaker c.end_array.result (nodes_written _ _ _ _ (nullable_trees c.args.nodes.now) c.in_ok-begin_array.ensures.ok past) c.end_array.ensures.ok
