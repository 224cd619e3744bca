use Rattle.std.proofs.Common.{◌≡◌, List, ◌+◌, ◌*◌}
use Rattle.es_base.specs.Preorder.{nodes, nodes_of, nodes_of_part}
use Rattle.es_base.specs.Table.{Field}
use Rattle.es_base.specs.Tree.{trees, nullable, nullable_trees}
use Rattle.es_node.specs.View.{part_of, parts_of, have_shapes}
use Rattle.es_visit.specs.Visited.{VisitedBelow, VisitedItems}
use Rattle.es_visit.proofs.Along.{Along, Left}
use Rattle.es_visit.proofs.visit_mut.+walk.Given as goal

abbrev pub decreases-walk_node_mut : goal.decreases-walk_node_mut
decreases-walk_node_mut g l = 8 * nodes l.node.now + 2

abbrev pub decreases-walk_by_kind : goal.decreases-walk_by_kind
decreases-walk_by_kind g l = 8 * nodes l.node.now + 1

abbrev pub decreases-walk_inside : goal.decreases-walk_inside
decreases-walk_inside g l = 8 * nodes l.node.now

abbrev pub decreases-walk_parts : goal.decreases-walk_parts
decreases-walk_parts g l = 8 * nodes_of (parts_of l.parts.now) + 7

abbrev pub decreases-walk_part : goal.decreases-walk_part
decreases-walk_part g l = 8 * nodes_of_part (part_of l.part.now) + 6

abbrev pub decreases-walk_nodes_mut : goal.decreases-walk_nodes_mut
decreases-walk_nodes_mut g l = 8 * nodes_of (trees l.nodes.now) + 5

abbrev pub decreases-walk_nodes_or_holes : goal.decreases-walk_nodes_or_holes
decreases-walk_nodes_or_holes g l = 8 * nodes_of (nullable_trees l.nodes.now) + 5

abbrev pub decreases-walk_node_or_hole : goal.decreases-walk_node_or_hole
decreases-walk_node_or_hole g l = 8 * nodes_of_part (nullable l.node.now) + 4

abbrev pub invariant-walk_parts-loop-i : goal.invariant-walk_parts-loop-i
invariant-walk_parts-loop-i g l = goal.unvisited-walk_parts-loop-i g l × Along parts_of (VisitedBelow g.V.VisitMut.enters g.V.VisitMut.leaves g.V.VisitMut.scope_enters g.V.VisitMut.scope_leaves l.kind l.computed) l.initial.visitor l.initial.parts l.visitor l.parts l.i × g.V.VisitMut.ready l.visitor × ((fs : List Field) → have_shapes fs l.parts ≡ have_shapes fs l.initial.parts) × Left parts_of l.initial.parts l.parts l.i

abbrev pub invariant-walk_nodes_mut-loop-i : goal.invariant-walk_nodes_mut-loop-i
invariant-walk_nodes_mut-loop-i g l = goal.unvisited-walk_nodes_mut-loop-i g l × Along trees (λ at. VisitedItems g.V.VisitMut.enters g.V.VisitMut.leaves g.V.VisitMut.scope_enters g.V.VisitMut.scope_leaves l.role) l.initial.visitor l.initial.nodes l.visitor l.nodes l.i × g.V.VisitMut.ready l.visitor × Left trees l.initial.nodes l.nodes l.i

abbrev pub invariant-walk_nodes_or_holes-loop-i : goal.invariant-walk_nodes_or_holes-loop-i
invariant-walk_nodes_or_holes-loop-i g l = goal.unvisited-walk_nodes_or_holes-loop-i g l × Along nullable_trees (λ at. VisitedItems g.V.VisitMut.enters g.V.VisitMut.leaves g.V.VisitMut.scope_enters g.V.VisitMut.scope_leaves l.role) l.initial.visitor l.initial.nodes l.visitor l.nodes l.i × g.V.VisitMut.ready l.visitor × Left nullable_trees l.initial.nodes l.nodes l.i
