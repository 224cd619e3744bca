use Rattle.std.proofs.Common.{◌≡◌, ◌+◌, ◌*◌, ◌++◌, drop, length, map}
use Rattle.es_base.specs.Preorder.{nodes, nodes_of, nodes_of_part}
use Rattle.es_base.specs.Table.{field_of}
use Rattle.es_base.specs.Tree.{trees, nullable, nullable_trees}
use Rattle.es_node.specs.View.{part_of, parts_of}
use Rattle.es_lowered.specs.Temporaries.{touches_of}
use Rattle.es_owed_temporaries.specs.Touches.{spot_here, spot_within, touches_all, touches_from}
use Rattle.es_owed_temporaries.proofs.touches.+touches.Given as goal

abbrev pub decreases-add_touches : goal.decreases-add_touches
decreases-add_touches l = 5 * nodes l.node.now

abbrev pub decreases-add_touches_in : goal.decreases-add_touches_in
decreases-add_touches_in l = 5 * nodes_of (parts_of l.parts.now) + 4

abbrev pub decreases-add_touches_at : goal.decreases-add_touches_at
decreases-add_touches_at l = 5 * nodes_of_part (part_of l.part.now) + 3

abbrev pub decreases-add_touches_of_list : goal.decreases-add_touches_of_list
decreases-add_touches_of_list l = 5 * nodes_of (trees l.nodes.now) + 2

abbrev pub decreases-add_touches_of_list_with_holes : goal.decreases-add_touches_of_list_with_holes
decreases-add_touches_of_list_with_holes l = 5 * nodes_of (nullable_trees l.nodes.now) + 2

abbrev pub decreases-add_touches_of_hole : goal.decreases-add_touches_of_hole
decreases-add_touches_of_hole l = 5 * nodes_of_part (nullable l.node.now) + 1

abbrev pub invariant-add_touches_in-loop-i : goal.invariant-add_touches_in-loop-i
invariant-add_touches_in-loop-i l =
    let of = touches_from l.first l.ledger (spot_within l.first l.ledger (spot_here l.spot) l.node) l.bare in
    (length l.members ≡ length l.parts) × (touches_all l.touches.items ++ of l.i (map field_of (drop l.i l.members)) (parts_of (drop l.i l.parts)) ≡ touches_all l.fn.touches.items ++ of 0 (map field_of l.members) (parts_of l.parts))

abbrev pub invariant-add_touches_of_list-loop-node : goal.invariant-add_touches_of_list-loop-node
invariant-add_touches_of_list-loop-node l =
    let of = touches_of l.first l.ledger (spot_here l.spot) l.gives in
    touches_all l.touches.items ++ of (trees (drop l.node-index l.nodes)) ≡ touches_all l.fn.touches.items ++ of (trees l.nodes)

abbrev pub invariant-add_touches_of_list_with_holes-loop-node : goal.invariant-add_touches_of_list_with_holes-loop-node
invariant-add_touches_of_list_with_holes-loop-node l =
    let of = touches_of l.first l.ledger (spot_here l.spot) l.gives in
    touches_all l.touches.items ++ of (nullable_trees (drop l.node-index l.nodes)) ≡ touches_all l.fn.touches.items ++ of (nullable_trees l.nodes)
