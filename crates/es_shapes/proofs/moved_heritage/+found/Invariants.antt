use Rattle.std.proofs.Common.{◌≡◌, ◌||◌, ◌+◌, ◌*◌, drop}
use Rattle.es_base.specs.Preorder.{nodes, nodes_of, nodes_of_part}
use Rattle.es_base.specs.Tree.{trees, nullable, nullable_trees}
use Rattle.es_node.specs.View.{kind_of, part_of, parts_in, parts_of}
use Rattle.es_steps.specs.Quiet.{has_events_in, has_events_of, is_evaluated}
use Rattle.es_steps.specs.Shapes.{moves_heritage_in, moves_heritage_of}
use Rattle.es_shapes.specs.Around.{ids_in, around, around_in}
use Rattle.es_shapes.specs.Quiet.{is_heritage}
use Rattle.es_shapes.proofs.MovedHeritages.{events_from, moves_from}
use Rattle.es_shapes.proofs.moved_heritage.+found.Given as goal

abbrev pub decreases-found_in_node : goal.decreases-found_in_node
decreases-found_in_node g l = 5 * nodes l.node.now

abbrev pub decreases-found_in_parts : goal.decreases-found_in_parts
decreases-found_in_parts g l = 5 * nodes_of (parts_in l.node.now) + 4

abbrev pub decreases-found_in_part : goal.decreases-found_in_part
decreases-found_in_part g l = 5 * nodes_of_part (part_of l.part.now) + 3

abbrev pub decreases-found_in_list : goal.decreases-found_in_list
decreases-found_in_list g l = 5 * nodes_of (trees l.nodes.now) + 2

abbrev pub decreases-found_in_list_with_holes : goal.decreases-found_in_list_with_holes
decreases-found_in_list_with_holes g l = 5 * nodes_of (nullable_trees l.nodes.now) + 2

abbrev pub decreases-found_in_hole : goal.decreases-found_in_hole
decreases-found_in_hole g l = 5 * nodes_of_part (nullable l.node.now) + 1

abbrev pub invariant-found_in_list-loop-node : goal.invariant-found_in_list-loop-node
invariant-found_in_list-loop-node g l =
    let p = g.F.NameFacts.program l.facts in
    let a = around (ids_in l.names) l.standing in
    record {
      events : (l.found.has_events || has_events_of l.options p a (trees (drop l.node-index l.nodes))) ≡ has_events_of l.options p a (trees l.nodes);
      moves : (l.found.moves_heritage || moves_heritage_of l.options p a (trees (drop l.node-index l.nodes))) ≡ moves_heritage_of l.options p a (trees l.nodes);
    }

abbrev pub invariant-found_in_list_with_holes-loop-node : goal.invariant-found_in_list_with_holes-loop-node
invariant-found_in_list_with_holes-loop-node g l =
    let p = g.F.NameFacts.program l.facts in
    let a = around (ids_in l.names) l.standing in
    record {
      events : (l.found.has_events || has_events_of l.options p a (nullable_trees (drop l.node-index l.nodes))) ≡ has_events_of l.options p a (nullable_trees l.nodes);
      moves : (l.found.moves_heritage || moves_heritage_of l.options p a (nullable_trees (drop l.node-index l.nodes))) ≡ moves_heritage_of l.options p a (nullable_trees l.nodes);
    }

abbrev pub invariant-found_in_parts-loop-i : goal.invariant-found_in_parts-loop-i
invariant-found_in_parts-loop-i g l =
    let o = l.options in
    let p = g.F.NameFacts.program l.facts in
    let kind = kind_of l.node in
    let ps = parts_in l.node in
    let a = around_in (ids_in l.names) l.standing.has_arguments kind in
    let rest = parts_of (drop l.i l.parts) in
    record {
      events : (l.found.has_events || events_from o p a (is_evaluated kind ps) l.i rest) ≡ has_events_in o p a (is_evaluated kind ps) ps;
      heritage : (l.found.heritage_has_events || events_from o p a is_heritage l.i rest) ≡ has_events_in o p a is_heritage ps;
      moves : (l.found.moves_heritage || moves_from o p a l.i rest) ≡ moves_heritage_in o p a ps;
    }
