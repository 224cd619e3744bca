use Rattle.std.proofs.Common.{◌∙◌, ◌+◌, ◌∷◌, ◌++◌, ◌&&◌, ◌||◌, ap, sym, arith, drop}
use Rattle.es_base.specs.Preorder.{nodes, nodes_of, nodes_of_part}
use Rattle.es_base.specs.Tree.{nullable, trees, nullable_trees}
use Rattle.es_node.specs.View.{kind_of, number_in, part_of, parts_in, parts_of}
use Rattle.es_node.proofs.Below.{part_below, tree_below, hole_below}
use Rattle.es_steps.specs.LoweredClasses.{is_lowered_class}
use Rattle.es_steps.specs.Quiet.{has_events_in, has_events_of, is_evaluated}
use Rattle.es_steps.specs.References.{resolve, written}
use Rattle.es_steps.specs.Shapes.{class_at, moves_before_heritage, moves_heritage_in, moves_heritage_of}
use Rattle.es_shapes.specs.Around.{ids_in, around, around_in}
use Rattle.es_shapes.specs.Quiet.{is_heritage}
use Rattle.es_shapes.proofs.MovedHeritages.{events_from, moves_from, all_events, all_moves, events_pass, moves_pass, events_next, moves_next, hole_events_next, hole_moves_next, around_part, moves_node}
use Rattle.es_shapes.proofs.moved_heritage.+found.Goals as goal

pub found_in_parts-found_in_part-in_part-requires : goal.found_in_parts-found_in_part-in_part-requires
found_in_parts-found_in_part-in_part-requires g t c κs within = (omega (arith, part_below c.parts-parts.result.now c.loop-i.i c.index-parts-i.result c.loop-i-test.true, ap (λ p. nodes_of_part (part_of p)) c.index-parts-i.is, ap nodes_of c.parts-parts.ensures.list, c.decreases), within)

pub found_in_list-found_in_node-requires : goal.found_in_list-found_in_node-requires
found_in_list-found_in_node-requires g t c κs within = (omega (arith, tree_below c.args.nodes.now c.loop-node.node-index c.node-item.result c.loop-node-test.true, ap nodes c.node-item.is, c.decreases), within)

pub found_in_list_with_holes-found_in_hole-requires : goal.found_in_list_with_holes-found_in_hole-requires
found_in_list_with_holes-found_in_hole-requires g t c κs within = (omega (arith, hole_below c.args.nodes.now c.loop-node.node-index c.node-item.result c.loop-node-test.true, ap (λ n. nodes_of_part (nullable n)) c.node-item.is, c.decreases), within)

pub found_in_list-loop-node-preserved : goal.found_in_list-loop-node-preserved
found_in_list-loop-node-preserved g t c =
    let o = c.args.options.now in
    let p = g.F.NameFacts.program c.args.facts.now in
    let a = around (ids_in c.args.names.now) c.args.standing in
    let ts = c.args.nodes.now in
    let i = c.loop-node.node-index in
    let found = c.found_in_node.result in
    record {
      events = ap (λ b. b || has_events_of o p a (trees (drop (i + 1) ts))) c.either-found.ensures.has_events ∙ events_next o p a ts i c.node-item.result c.loop-node-test.true c.node-item.is found.has_events c.found_in_node.ensures.has_events c.loop-node.found.has_events ∙ c.loop-node.invariant.events;
      moves = ap (λ b. b || moves_heritage_of o p a (trees (drop (i + 1) ts))) c.either-found.ensures.moves_heritage ∙ moves_next o p a ts i c.node-item.result c.loop-node-test.true c.node-item.is found.moves_heritage c.found_in_node.ensures.moves_heritage c.loop-node.found.moves_heritage ∙ c.loop-node.invariant.moves;
    }

pub found_in_list_with_holes-loop-node-preserved : goal.found_in_list_with_holes-loop-node-preserved
found_in_list_with_holes-loop-node-preserved g t c =
    let o = c.args.options.now in
    let p = g.F.NameFacts.program c.args.facts.now in
    let a = around (ids_in c.args.names.now) c.args.standing in
    let ts = c.args.nodes.now in
    let i = c.loop-node.node-index in
    let found = c.found_in_hole.result in
    record {
      events = ap (λ b. b || has_events_of o p a (nullable_trees (drop (i + 1) ts))) c.either-found.ensures.has_events ∙ hole_events_next o p a ts i c.node-item.result c.loop-node-test.true c.node-item.is found.has_events c.found_in_hole.ensures.has_events c.loop-node.found.has_events ∙ c.loop-node.invariant.events;
      moves = ap (λ b. b || moves_heritage_of o p a (nullable_trees (drop (i + 1) ts))) c.either-found.ensures.moves_heritage ∙ hole_moves_next o p a ts i c.node-item.result c.loop-node-test.true c.node-item.is found.moves_heritage c.found_in_hole.ensures.moves_heritage c.loop-node.found.moves_heritage ∙ c.loop-node.invariant.moves;
    }

pub found_in_parts-loop-i-init : goal.found_in_parts-loop-i-init
found_in_parts-loop-i-init g t c =
    let o = c.args.options.now in
    let p = g.F.NameFacts.program c.args.facts.now in
    let kind = kind_of c.args.node.now in
    let ps = parts_in c.args.node.now in
    let a = around_in (ids_in c.args.names.now) c.args.standing.has_arguments kind in
    let parts = parts_of c.parts-parts.result.now in
    let same = sym c.parts-parts.ensures.list in
    record {
      events = all_events o p a (is_evaluated kind ps) parts ∙ ap (has_events_in o p a (is_evaluated kind ps)) same;
      heritage = all_events o p a is_heritage parts ∙ ap (has_events_in o p a is_heritage) same;
      moves = all_moves o p a parts ∙ ap (moves_heritage_in o p a) same;
    }

pub found_in_parts-loop-i-preserved : goal.found_in_parts-loop-i-preserved
found_in_parts-loop-i-preserved g t c =
    let o = c.args.options.now in
    let p = g.F.NameFacts.program c.args.facts.now in
    let kind = kind_of c.args.node.now in
    let ps = parts_in c.args.node.now in
    let ids = ids_in c.args.names.now in
    let a = around_in ids c.args.standing.has_arguments kind in
    let parts = c.parts-parts.result.now in
    let i = c.loop-i.i in
    let rest = parts_of (drop (i + 1) parts) in
    let inside = c.standing_inside-inside in
    let b = around ids inside.result in
    let is_around = around_part ids c.args.standing.has_arguments kind i inside.result inside.ensures.has_arguments inside.ensures.in_block in
    let found = c.found_in_part-in_part in
    let now = c.found_with_part-found.ensures in
    record {
      events = ap (λ x. x || events_from o p a (is_evaluated kind ps) (i + 1) rest) now.has_events ∙ events_pass o p a (is_evaluated kind ps) parts i c.index-parts-i.result c.loop-i-test.true c.index-parts-i.is b is_around c.is_evaluated.result c.is_evaluated.ensures found.result.has_events found.ensures.has_events c.loop-i.found.has_events ∙ c.loop-i.invariant.events;
      heritage = ap (λ x. x || events_from o p a is_heritage (i + 1) rest) now.heritage_has_events ∙ events_pass o p a is_heritage parts i c.index-parts-i.result c.loop-i-test.true c.index-parts-i.is b is_around c.is_heritage.result c.is_heritage.ensures found.result.has_events found.ensures.has_events c.loop-i.found.heritage_has_events ∙ c.loop-i.invariant.heritage;
      moves = ap (λ x. x || moves_from o p a (i + 1) rest) now.moves_heritage ∙ moves_pass o p a parts i c.index-parts-i.result c.loop-i-test.true c.index-parts-i.is b is_around found.result.moves_heritage found.ensures.moves_heritage c.loop-i.found.moves_heritage ∙ c.loop-i.invariant.moves;
    }

pub found_in_node-returns-in-Some-clause-moves_heritage : goal.found_in_node-returns-in-Some-clause-moves_heritage
found_in_node-returns-in-Some-clause-moves_heritage g t c =
    let o = c.args.options.now in
    let p = g.F.NameFacts.program c.args.facts.now in
    let node = c.args.node.now in
    let names = ids_in c.args.names.now in
    let ids = c.in-Some.id.0 ∷ names in
    let a = around_in ids c.args.standing.has_arguments (kind_of node) in
    let moving = is_lowered_class o (kind_of node) (parts_in node) && moves_before_heritage o (written p) (resolve p) (class_at (kind_of node) (number_in node) (parts_in node)) in
    let parts = c.found_in_parts-parts in
    c.found_with.ensures.moves_heritage
    ∙ ap (λ h. (h && moving) || parts.result.moves_heritage) parts.ensures.heritage_has_events
    ∙ ap (λ m. (has_events_in o p a is_heritage (parts_in node) && moving) || m) parts.ensures.moves_heritage
    ∙ moves_node o p (around names c.args.standing) ids node (ap (λ ns. ns ++ names) c.in-Some.ensures)

pub found_in_node-returns-in-None-clause-moves_heritage : goal.found_in_node-returns-in-None-clause-moves_heritage
found_in_node-returns-in-None-clause-moves_heritage g t c =
    let o = c.args.options.now in
    let p = g.F.NameFacts.program c.args.facts.now in
    let node = c.args.node.now in
    let names = ids_in c.args.names.now in
    let a = around_in names c.args.standing.has_arguments (kind_of node) in
    let moving = is_lowered_class o (kind_of node) (parts_in node) && moves_before_heritage o (written p) (resolve p) (class_at (kind_of node) (number_in node) (parts_in node)) in
    let parts = c.found_in_parts-parts-in-None in
    c.found_with-in-None.ensures.moves_heritage
    ∙ ap (λ h. (h && moving) || parts.result.moves_heritage) parts.ensures.heritage_has_events
    ∙ ap (λ m. (has_events_in o p a is_heritage (parts_in node) && moving) || m) parts.ensures.moves_heritage
    ∙ moves_node o p (around names c.args.standing) names node (ap (λ ns. ns ++ names) c.in-None.ensures)
