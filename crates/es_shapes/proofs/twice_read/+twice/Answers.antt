use Rattle.std.proofs.Common.{◌∙◌, ◌+◌, ◌||◌, ap, sym, arith, drop}
use Rattle.es_base.specs.Preorder.{nodes, nodes_of, nodes_of_part}
use Rattle.es_base.specs.Tree.{nullable}
use Rattle.es_node.specs.View.{kind_of, part_of, parts_in, parts_of}
use Rattle.es_node.proofs.Below.{part_below, tree_below, hole_below}
use Rattle.es_steps.specs.References.{resolve, varying}
use Rattle.es_steps.specs.Shapes.{moved_in, is_private_function, reads_twice_in}
use Rattle.es_shapes.proofs.Twice.{from, all_parts, passes_over}
use Rattle.es_shapes.proofs.twice_read.+twice.Goals as goal

pub reads_twice_in-reads_twice_at-requires : goal.reads_twice_in-reads_twice_at-requires
reads_twice_in-reads_twice_at-requires g t c κs within = (omega (arith, part_below c.parts-parts.result.now c.loop-i.i c.index-parts-i.result c.loop-i-test.true, ap (λ p. nodes_of_part (part_of p)) c.index-parts-i.is, ap nodes_of c.parts-parts.ensures.list, c.decreases), within)

pub reads_twice_of_list-reads_twice-requires : goal.reads_twice_of_list-reads_twice-requires
reads_twice_of_list-reads_twice-requires g t c κs within = (omega (arith, tree_below c.args.nodes.now c.loop-node.node-index c.node-item.result c.loop-node-test.true, ap nodes c.node-item.is, c.decreases), within)

pub reads_twice_of_list_with_holes-reads_twice_of_hole-requires : goal.reads_twice_of_list_with_holes-reads_twice_of_hole-requires
reads_twice_of_list_with_holes-reads_twice_of_hole-requires g t c κs within = (omega (arith, hole_below c.args.nodes.now c.loop-node.node-index c.node-item.result c.loop-node-test.true, ap (λ n. nodes_of_part (nullable n)) c.node-item.is, c.decreases), within)

pub reads_twice_in-loop-i-init : goal.reads_twice_in-loop-i-init
reads_twice_in-loop-i-init g t c =
    let o = c.args.options.now in
    let w = varying (g.F.NameFacts.program c.args.facts.now) in
    let r = resolve (g.F.NameFacts.program c.args.facts.now) in
    let moved = moved_in o c.args.moves.moved c.args.moves.of_method (kind_of c.args.node.now) (parts_in c.args.node.now) in
    let of_method = is_private_function (kind_of c.args.node.now) (parts_in c.args.node.now) in
    all_parts o w r moved of_method (parts_of c.parts-parts.result.now) ∙ ap (reads_twice_in o w r moved of_method) (sym c.parts-parts.ensures.list)

pub reads_twice_in-loop-i-preserved : goal.reads_twice_in-loop-i-preserved
reads_twice_in-loop-i-preserved g t c =
    let o = c.args.options.now in
    let w = varying (g.F.NameFacts.program c.args.facts.now) in
    let r = resolve (g.F.NameFacts.program c.args.facts.now) in
    let moved = moved_in o c.args.moves.moved c.args.moves.of_method (kind_of c.args.node.now) (parts_in c.args.node.now) in
    let of_method = is_private_function (kind_of c.args.node.now) (parts_in c.args.node.now) in
    let parts = c.parts-parts.result.now in
    let i = c.loop-i.i in
    sym (ap (λ b. b || from o w r moved of_method (i + 1) (parts_of (drop (i + 1) parts))) c.if-reads_twice_at.false)
    ∙ sym (passes_over o w r moved of_method parts i c.index-parts-i.result c.loop-i-test.true c.index-parts-i.is c.moves_inside.result.moved c.moves_inside.result.of_method c.moves_inside.ensures.moved c.moves_inside.ensures.of_method c.reads_twice_at.result c.reads_twice_at.ensures)
    ∙ c.loop-i.invariant

pub reads_twice_in-returns-then-reads_twice_at : goal.reads_twice_in-returns-then-reads_twice_at
reads_twice_in-returns-then-reads_twice_at g t c =
    let o = c.args.options.now in
    let w = varying (g.F.NameFacts.program c.args.facts.now) in
    let r = resolve (g.F.NameFacts.program c.args.facts.now) in
    let moved = moved_in o c.args.moves.moved c.args.moves.of_method (kind_of c.args.node.now) (parts_in c.args.node.now) in
    let of_method = is_private_function (kind_of c.args.node.now) (parts_in c.args.node.now) in
    let parts = c.parts-parts.result.now in
    let i = c.loop-i.i in
    sym (ap (λ b. b || from o w r moved of_method (i + 1) (parts_of (drop (i + 1) parts))) c.if-reads_twice_at.true)
    ∙ sym (passes_over o w r moved of_method parts i c.index-parts-i.result c.loop-i-test.true c.index-parts-i.is c.moves_inside.result.moved c.moves_inside.result.of_method c.moves_inside.ensures.moved c.moves_inside.ensures.of_method c.reads_twice_at.result c.reads_twice_at.ensures)
    ∙ c.loop-i.invariant
