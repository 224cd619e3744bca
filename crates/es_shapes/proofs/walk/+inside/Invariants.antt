use Rattle.std.proofs.Common.{◌≡◌, ◌+◌, ◌*◌, drop}
use Rattle.es_base.specs.Preorder.{nodes, nodes_of, nodes_of_part}
use Rattle.es_base.specs.Tree.{trees, nullable, nullable_trees}
use Rattle.es_node.specs.View.{part_of, parts_of}
use Rattle.es_steps.specs.NameScopes.{holds_in}
use Rattle.es_shapes.proofs.walk.+inside.Given as goal

abbrev pub decreases-any_inside : goal.decreases-any_inside
decreases-any_inside g l = 5 * nodes l.node.now

abbrev pub decreases-any_inside_in : goal.decreases-any_inside_in
decreases-any_inside_in g l = 5 * nodes_of (parts_of l.parts.now) + 4

abbrev pub decreases-any_inside_of : goal.decreases-any_inside_of
decreases-any_inside_of g l = 5 * nodes_of_part (part_of l.part.now) + 3

abbrev pub decreases-any_inside_list : goal.decreases-any_inside_list
decreases-any_inside_list g l = 5 * nodes_of (trees l.nodes.now) + 2

abbrev pub decreases-any_inside_list_with_holes : goal.decreases-any_inside_list_with_holes
decreases-any_inside_list_with_holes g l = 5 * nodes_of (nullable_trees l.nodes.now) + 2

abbrev pub decreases-any_inside_hole : goal.decreases-any_inside_hole
decreases-any_inside_hole g l = 5 * nodes_of_part (nullable l.node.now) + 1

abbrev pub invariant-any_inside_in-loop-part : goal.invariant-any_inside_in-loop-part
invariant-any_inside_in-loop-part g l = holds_in (g.T.KindTest.holds l.test) (parts_of (drop l.part-index l.parts)) ≡ holds_in (g.T.KindTest.holds l.test) (parts_of l.parts)

abbrev pub invariant-any_inside_list-loop-node : goal.invariant-any_inside_list-loop-node
invariant-any_inside_list-loop-node g l = holds_in (g.T.KindTest.holds l.test) (trees (drop l.node-index l.nodes)) ≡ holds_in (g.T.KindTest.holds l.test) (trees l.nodes)

abbrev pub invariant-any_inside_list_with_holes-loop-node : goal.invariant-any_inside_list_with_holes-loop-node
invariant-any_inside_list_with_holes-loop-node g l = holds_in (g.T.KindTest.holds l.test) (nullable_trees (drop l.node-index l.nodes)) ≡ holds_in (g.T.KindTest.holds l.test) (nullable_trees l.nodes)
