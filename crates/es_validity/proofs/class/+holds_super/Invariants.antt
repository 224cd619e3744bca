use Rattle.std.proofs.Common.{◌≡◌, ◌+◌, ◌*◌, drop}
use Rattle.es_base.specs.Preorder.{nodes, nodes_of, nodes_of_part}
use Rattle.es_base.specs.Tree.{trees, nullable, nullable_trees}
use Rattle.es_node.specs.View.{part_of, parts_of}
use Rattle.es_steps.specs.Context.{parts_hold_super}
use Rattle.es_validity.proofs.class.+holds_super.Given as goal

abbrev pub decreases-node_holds_super : goal.decreases-node_holds_super
decreases-node_holds_super l = 5 * nodes l.node.now

abbrev pub decreases-parts_hold_super : goal.decreases-parts_hold_super
decreases-parts_hold_super l = 5 * nodes_of (parts_of l.parts.now) + 4

abbrev pub decreases-part_holds_super : goal.decreases-part_holds_super
decreases-part_holds_super l = 5 * nodes_of_part (part_of l.part.now) + 3

abbrev pub decreases-list_holds_super : goal.decreases-list_holds_super
decreases-list_holds_super l = 5 * nodes_of (trees l.nodes.now) + 2

abbrev pub decreases-list_with_holes_holds_super : goal.decreases-list_with_holes_holds_super
decreases-list_with_holes_holds_super l = 5 * nodes_of (nullable_trees l.nodes.now) + 2

abbrev pub decreases-hole_holds_super : goal.decreases-hole_holds_super
decreases-hole_holds_super l = 5 * nodes_of_part (nullable l.node.now) + 1

abbrev pub invariant-parts_hold_super-loop-part : goal.invariant-parts_hold_super-loop-part
invariant-parts_hold_super-loop-part l = parts_hold_super (parts_of (drop l.part-index l.parts)) ≡ parts_hold_super (parts_of l.parts)

abbrev pub invariant-list_holds_super-loop-node : goal.invariant-list_holds_super-loop-node
invariant-list_holds_super-loop-node l = parts_hold_super (trees (drop l.node-index l.nodes)) ≡ parts_hold_super (trees l.nodes)

abbrev pub invariant-list_with_holes_holds_super-loop-node : goal.invariant-list_with_holes_holds_super-loop-node
invariant-list_with_holes_holds_super-loop-node l = parts_hold_super (nullable_trees (drop l.node-index l.nodes)) ≡ parts_hold_super (nullable_trees l.nodes)
