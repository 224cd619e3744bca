use Rattle.std.proofs.Common.{◌≡◌, ap, subst, ◌∙◌, ◌+◌, ◌≤◌, length, drop, arith, IfOk}
use Rattle.es_base.specs.Preorder.{nodes, nodes_of_part}
use Rattle.es_base.specs.Tree.{nullable, nullable_trees, trees}
use Rattle.es_code_members.specs.MembersView.{member_of}
use Rattle.es_code_reading.specs.Contexts.{context_of}
use Rattle.es_node.proofs.Below.{hole_below, part_below, tree_below}
use Rattle.es_node.specs.View.{kind_of, number_in, part_of, parts_in, parts_of}
use Rattle.es_seen_names.specs.Frames.{names_in}
use Rattle.es_steps.specs.Context.{inside}
use Rattle.es_steps.specs.Reading as spec
use Rattle.es_steps.specs.References.{takes_vars}
use Rattle.es_tree_codes.proofs.Joined.{hole_read, holes_read, item_read, items_read, length_more, member_read, members_read}
use Rattle.es_tree_codes.proofs.read.+read.Goals as goal
use Rattle.es_tree_codes.specs.Onto.{items_onto, members_onto, read_from}
use Rattle.std.specs.Prelude.{cond}

pub read_members-read_member-requires : goal.read_members-read_member-requires
read_members-read_member-requires t c = (omega (arith, part_below c.args.parts.now c.loop-i.i c.index-parts-i.result c.loop-i-test.true, ap (λ p. nodes_of_part (part_of p)) c.index-parts-i.is, c.decreases), tt)

pub read_members-loop-i-preserved : goal.read_members-loop-i-preserved
read_members-loop-i-preserved t c =
    let within = inside (context_of c.args.c.now) (kind_of c.args.node.now) (number_in c.args.node.now) (parts_in c.args.node.now) in (
      ap length c.in_ok-push.ensures.items ∙ length_more c.loop-i.members.items c.in_ok-read_member.field-0 ∙ ap (λ n. n + 1) c.loop-i.invariant.0,
      ap (λ ms. members_onto ms (read_from within (c.loop-i.i + 1) (parts_of (drop (c.loop-i.i + 1) c.args.parts.now)))) c.in_ok-push.ensures.items
          ∙ member_read within c.loop-i.members.items c.in_ok-read_member.field-0 c.args.parts.now c.loop-i.i c.index-parts-i.result _ c.loop-i-test.true c.index-parts-i.is c.in_ok-read_member.ensures c.loop-i.invariant.1,
    )

pub read_members-returns-clause-members : goal.read_members-returns-clause-members
read_members-returns-clause-members t c =
    let within = inside (context_of c.args.c.now) (kind_of c.args.node.now) (number_in c.args.node.now) (parts_in c.args.node.now) in
    let none : length c.args.parts.now ≤ c.loop-i.i = omega (arith, c.loop-i-test.false) in
    members_read within c.loop-i.members.items c.args.parts.now c.loop-i.i _ none c.loop-i.invariant.1

pub read_list-read-requires : goal.read_list-read-requires
read_list-read-requires t c = (omega (arith, tree_below c.args.nodes.now c.loop-node.node-index c.node-item.result c.loop-node-test.true, ap nodes c.node-item.is, c.decreases), tt)

pub read_list-loop-node-preserved : goal.read_list-loop-node-preserved
read_list-loop-node-preserved t c =
    let x = context_of c.args.c.now in
    ap (λ cs. items_onto cs (spec.read_items x (trees (drop (c.loop-node.node-index + 1) c.args.nodes.now)))) c.in_ok-push.ensures.ok
    ∙ item_read x c.loop-node.codes c.in_ok-read.field-0 c.args.nodes.now c.loop-node.node-index c.node-item.result _ c.loop-node-test.true c.node-item.is c.in_ok-read.ensures c.loop-node.invariant

pub read_list-returns : goal.read_list-returns
read_list-returns t c =
    let none : length c.args.nodes.now ≤ c.loop-node.node-index = omega (arith, c.loop-node-test.false) in
    items_read (context_of c.args.c.now) c.loop-node.codes c.args.nodes.now c.loop-node.node-index _ none c.loop-node.invariant

pub read_list_with_holes-read_hole-requires : goal.read_list_with_holes-read_hole-requires
read_list_with_holes-read_hole-requires t c = (omega (arith, hole_below c.args.nodes.now c.loop-node.node-index c.node-item.result c.loop-node-test.true, ap (λ n. nodes_of_part (nullable n)) c.node-item.is, c.decreases), tt)

pub read_list_with_holes-loop-node-preserved : goal.read_list_with_holes-loop-node-preserved
read_list_with_holes-loop-node-preserved t c =
    let x = context_of c.args.c.now in
    ap (λ cs. items_onto cs (spec.read_items x (nullable_trees (drop (c.loop-node.node-index + 1) c.args.nodes.now)))) c.in_ok-push.ensures.ok
    ∙ hole_read x c.loop-node.codes c.in_ok-read_hole.field-0 c.args.nodes.now c.loop-node.node-index c.node-item.result _ c.loop-node-test.true c.node-item.is c.in_ok-read_hole.ensures c.loop-node.invariant

pub read_list_with_holes-returns : goal.read_list_with_holes-returns
read_list_with_holes-returns t c =
    let none : length c.args.nodes.now ≤ c.loop-node.node-index = omega (arith, c.loop-node-test.false) in
    holes_read (context_of c.args.c.now) c.loop-node.codes c.args.nodes.now c.loop-node.node-index _ none c.loop-node.invariant

pub read_inside-returns : goal.read_inside-returns
read_inside-returns t c =
    let x = c.args.c.now in
    let n = c.args.node.now in
    let uncaught = c.uncaught_around-uncaught.ensures ∙ ap (λ k. cond (takes_vars k) (names_in x.names) (names_in x.uncaught)) c.kind.ensures in
    subst (λ y. IfOk c.read_part.result (λ m. member_of m ≡ spec.read_part y (part_of c.args.part.now)))
    (c.context-inner.ensures c.args.i c.in_ok-inside.ensures uncaught)
    c.read_part.ensures
