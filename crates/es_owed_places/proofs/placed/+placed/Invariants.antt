use Rattle.std.proofs.Common.{◌≡◌, ◌+◌, ◌*◌, ◌++◌, drop}
use Rattle.es_base.specs.Preorder.{nodes, nodes_of, nodes_of_part}
use Rattle.es_base.specs.Tree.{trees, nullable, nullable_trees}
use Rattle.es_lowered.specs.FunctionsAround.{placed_of}
use Rattle.es_node.specs.View.{part_of, parts_of}
use Rattle.es_owed_places.specs.Placed.{around_in, constructors_within, functions_within, placed_from, references_of}
use Rattle.es_owed_places.proofs.placed.+placed.Given as goal

abbrev pub decreases-add_placed : goal.decreases-add_placed
decreases-add_placed g l = 6 * nodes l.node.now

abbrev pub decreases-add_placed_in : goal.decreases-add_placed_in
decreases-add_placed_in g l = 6 * nodes_of (parts_of l.parts.now) + 5

abbrev pub decreases-add_placed_part : goal.decreases-add_placed_part
decreases-add_placed_part g l = 6 * nodes_of_part (part_of l.part.now) + 4

abbrev pub decreases-add_placed_at : goal.decreases-add_placed_at
decreases-add_placed_at g l = 6 * nodes_of_part (part_of l.part.now) + 3

abbrev pub decreases-add_placed_of_list : goal.decreases-add_placed_of_list
decreases-add_placed_of_list g l = 6 * nodes_of (trees l.nodes.now) + 2

abbrev pub decreases-add_placed_of_list_with_holes : goal.decreases-add_placed_of_list_with_holes
decreases-add_placed_of_list_with_holes g l = 6 * nodes_of (nullable_trees l.nodes.now) + 2

abbrev pub decreases-add_placed_of_hole : goal.decreases-add_placed_of_hole
decreases-add_placed_of_hole g l = 6 * nodes_of_part (nullable l.node.now) + 1

abbrev pub invariant-add_placed_in-loop-i : goal.invariant-add_placed_in-loop-i
invariant-add_placed_in-loop-i g l =
    let asked = g.A.Asks.asks l.search.asked.now in
    let constructors = constructors_within l.node in
    let within = functions_within l.search.first l.is_constructor (around_in l.around) l.node in
    references_of l.found.items ++ placed_from l.search.first asked constructors within l.i (parts_of (drop l.i l.parts)) ≡ references_of l.fn.found.items ++ placed_from l.search.first asked constructors within 0 (parts_of l.parts)

abbrev pub invariant-add_placed_of_list-loop-node : goal.invariant-add_placed_of_list-loop-node
invariant-add_placed_of_list-loop-node g l =
    let asked = g.A.Asks.asks l.search.asked.now in
    references_of l.found.items ++ placed_of l.search.first asked (around_in l.around) (trees (drop l.node-index l.nodes)) ≡ references_of l.fn.found.items ++ placed_of l.search.first asked (around_in l.around) (trees l.nodes)

abbrev pub invariant-add_placed_of_list_with_holes-loop-node : goal.invariant-add_placed_of_list_with_holes-loop-node
invariant-add_placed_of_list_with_holes-loop-node g l =
    let asked = g.A.Asks.asks l.search.asked.now in
    references_of l.found.items ++ placed_of l.search.first asked (around_in l.around) (nullable_trees (drop l.node-index l.nodes)) ≡ references_of l.fn.found.items ++ placed_of l.search.first asked (around_in l.around) (nullable_trees l.nodes)
