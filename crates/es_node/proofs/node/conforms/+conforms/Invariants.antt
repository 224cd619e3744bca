use Rattle.std.proofs.Common.{◌≡◌, ◌+◌, ◌*◌, map, length, drop, true, false}
use Rattle.es_base.specs.Preorder.{nodes, nodes_of, nodes_of_part}
use Rattle.es_base.specs.Tree.{trees, nullable, nullable_trees}
use Rattle.es_base.specs.Conforms.{parts_conform, items_conform}
use Rattle.es_base.specs.Table.{field_of}
use Rattle.es_node.specs.View.{part_of, parts_of}
use Rattle.es_node.proofs.node.conforms.+conforms.Given as goal

abbrev pub decreases-node_conforms : goal.decreases-node_conforms
decreases-node_conforms l = 5 * nodes l.node.now

abbrev pub decreases-parts_conform : goal.decreases-parts_conform
decreases-parts_conform l = 5 * nodes_of (parts_of l.parts.now) + 4

abbrev pub decreases-part_conforms : goal.decreases-part_conforms
decreases-part_conforms l = 5 * nodes_of_part (part_of l.part.now) + 3

abbrev pub decreases-items_conform : goal.decreases-items_conform
decreases-items_conform l = 5 * nodes_of (trees l.nodes.now) + 2

abbrev pub decreases-items_or_holes_conform : goal.decreases-items_or_holes_conform
decreases-items_or_holes_conform l = 5 * nodes_of (nullable_trees l.nodes.now) + 2

abbrev pub decreases-item_conforms : goal.decreases-item_conforms
decreases-item_conforms l = 5 * nodes_of_part (nullable l.node.now) + 1

abbrev pub invariant-parts_conform-loop-i : goal.invariant-parts_conform-loop-i
invariant-parts_conform-loop-i l =
    (length l.members ≡ length l.parts) × (parts_conform l.computed (map field_of (drop l.i l.members)) (parts_of (drop l.i l.parts)) ≡ parts_conform l.computed (map field_of l.members) (parts_of l.parts))

abbrev pub invariant-items_conform-loop-i : goal.invariant-items_conform-loop-i
invariant-items_conform-loop-i l = items_conform false l.place (trees (drop l.i l.nodes)) ≡ items_conform false l.place (trees l.nodes)

abbrev pub invariant-items_or_holes_conform-loop-i : goal.invariant-items_or_holes_conform-loop-i
invariant-items_or_holes_conform-loop-i l = items_conform true l.place (nullable_trees (drop l.i l.nodes)) ≡ items_conform true l.place (nullable_trees l.nodes)
