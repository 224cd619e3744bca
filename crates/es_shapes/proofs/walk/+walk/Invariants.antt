use Rattle.std.proofs.Common.{◌≡◌, ◌+◌, ◌*◌, drop}
use Rattle.std.specs.List.{list_any}
use Rattle.es_base.specs.Preorder.{nodes, nodes_of, nodes_of_part, preorder_of}
use Rattle.es_base.specs.Tree.{trees, nullable, nullable_trees}
use Rattle.es_node.specs.View.{part_of, parts_of}
use Rattle.es_shapes.proofs.walk.+walk.Given as goal

abbrev pub decreases-any_node : goal.decreases-any_node
decreases-any_node g l = 5 * nodes l.node.now

abbrev pub decreases-any_in : goal.decreases-any_in
decreases-any_in g l = 5 * nodes_of (parts_of l.parts.now) + 4

abbrev pub decreases-any_of : goal.decreases-any_of
decreases-any_of g l = 5 * nodes_of_part (part_of l.part.now) + 3

abbrev pub decreases-any_of_list : goal.decreases-any_of_list
decreases-any_of_list g l = 5 * nodes_of (trees l.nodes.now) + 2

abbrev pub decreases-any_of_list_with_holes : goal.decreases-any_of_list_with_holes
decreases-any_of_list_with_holes g l = 5 * nodes_of (nullable_trees l.nodes.now) + 2

abbrev pub decreases-any_of_hole : goal.decreases-any_of_hole
decreases-any_of_hole g l = 5 * nodes_of_part (nullable l.node.now) + 1

abbrev pub invariant-any_in-loop-part : goal.invariant-any_in-loop-part
invariant-any_in-loop-part g l = list_any (g.T.NodeTest.passes l.test) (preorder_of (parts_of (drop l.part-index l.parts))) ≡ list_any (g.T.NodeTest.passes l.test) (preorder_of (parts_of l.parts))

abbrev pub invariant-any_of_list-loop-node : goal.invariant-any_of_list-loop-node
invariant-any_of_list-loop-node g l = list_any (g.T.NodeTest.passes l.test) (preorder_of (trees (drop l.node-index l.nodes))) ≡ list_any (g.T.NodeTest.passes l.test) (preorder_of (trees l.nodes))

abbrev pub invariant-any_of_list_with_holes-loop-node : goal.invariant-any_of_list_with_holes-loop-node
invariant-any_of_list_with_holes-loop-node g l = list_any (g.T.NodeTest.passes l.test) (preorder_of (nullable_trees (drop l.node-index l.nodes))) ≡ list_any (g.T.NodeTest.passes l.test) (preorder_of (nullable_trees l.nodes))
