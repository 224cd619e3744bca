use Rattle.std.proofs.Common.{◌≡◌, ◌+◌, ◌*◌, true}
use Rattle.es_base.specs.Table.{members_of}
use Rattle.es_base.specs.Tree.{trees, nullable, nullable_trees}
use Rattle.es_ctx.specs.Stores.{stored}
use Rattle.es_node.specs.View.{part_of, parts_of, have_shapes}
use Rattle.es_visit.proofs.Along.{Along}
use Rattle.es_walk.specs.Steps.{OpensPart, ClosesPart}
use Rattle.es_walk.specs.Traversed.{TraversedParts, TraversedItems}
use Rattle.es_walk.specs.Weight.{total, total_of, total_of_part}
use Rattle.es_walk.proofs.Load.{Load}
use Rattle.es_walk.proofs.walk.+walk.Given as goal

abbrev pub decreases-walk_parts : goal.decreases-walk_parts
decreases-walk_parts g l = 6 * (total_of g.T.Traverse.weight (parts_of l.parts.now) + (g.T.Traverse.spare l.transform.now + stored l.ctx.now.lists)) + 5

abbrev pub decreases-walk_member : goal.decreases-walk_member
decreases-walk_member g l = 6 * (total_of_part g.T.Traverse.weight (part_of l.part.now) + (g.T.Traverse.spare l.transform.now + stored l.ctx.now.lists)) + 4

abbrev pub decreases-walk_part : goal.decreases-walk_part
decreases-walk_part g l = 6 * (total_of_part g.T.Traverse.weight (part_of l.part.now) + (g.T.Traverse.spare l.transform.now + stored l.ctx.now.lists)) + 3

abbrev pub decreases-walk_nodes : goal.decreases-walk_nodes
decreases-walk_nodes g l = 6 * (total_of g.T.Traverse.weight (trees l.nodes.now) + (g.T.Traverse.spare l.transform.now + stored l.ctx.now.lists)) + 2

abbrev pub decreases-walk_nodes_or_holes : goal.decreases-walk_nodes_or_holes
decreases-walk_nodes_or_holes g l = 6 * (total_of g.T.Traverse.weight (nullable_trees l.nodes.now) + (g.T.Traverse.spare l.transform.now + stored l.ctx.now.lists)) + 2

abbrev pub decreases-walk_node_or_hole : goal.decreases-walk_node_or_hole
decreases-walk_node_or_hole g l = 6 * (total_of_part g.T.Traverse.weight (nullable l.node.now) + (g.T.Traverse.spare l.transform.now + stored l.ctx.now.lists)) + 1

abbrev pub decreases-walk_node : goal.decreases-walk_node
decreases-walk_node g l = 6 * (total g.T.Traverse.weight l.node.now + (g.T.Traverse.spare l.transform.now + stored l.ctx.now.lists)) + 0

abbrev pub invariant-walk_parts-loop-i : goal.invariant-walk_parts-loop-i
invariant-walk_parts-loop-i g l = goal.unvisited-walk_parts-loop-i g l × Along parts_of (λ at. TraversedParts g.T.Traverse.enters g.T.Traverse.leaves OpensPart ClosesPart l.fn.parent at) (l.initial.transform, l.initial.ctx) l.initial.all (l.transform, l.ctx) l.all l.i × Load parts_of g.T.Traverse.weight g.T.Traverse.spare (l.initial.transform, l.initial.ctx) l.initial.all (l.transform, l.ctx) l.all l.i × g.T.Traverse.ready (l.transform, l.ctx) × (have_shapes (members_of l.fn.parent.kind) l.all ≡ true)

abbrev pub invariant-walk_nodes-loop-i : goal.invariant-walk_nodes-loop-i
invariant-walk_nodes-loop-i g l = goal.unvisited-walk_nodes-loop-i g l × Along trees (λ at. TraversedItems g.T.Traverse.enters g.T.Traverse.leaves OpensPart ClosesPart) (l.initial.transform, l.initial.ctx) l.initial.all (l.transform, l.ctx) l.all l.i × Load trees g.T.Traverse.weight g.T.Traverse.spare (l.initial.transform, l.initial.ctx) l.initial.all (l.transform, l.ctx) l.all l.i × g.T.Traverse.ready (l.transform, l.ctx)

abbrev pub invariant-walk_nodes_or_holes-loop-i : goal.invariant-walk_nodes_or_holes-loop-i
invariant-walk_nodes_or_holes-loop-i g l = goal.unvisited-walk_nodes_or_holes-loop-i g l × Along nullable_trees (λ at. TraversedItems g.T.Traverse.enters g.T.Traverse.leaves OpensPart ClosesPart) (l.initial.transform, l.initial.ctx) l.initial.all (l.transform, l.ctx) l.all l.i × Load nullable_trees g.T.Traverse.weight g.T.Traverse.spare (l.initial.transform, l.initial.ctx) l.initial.all (l.transform, l.ctx) l.all l.i × g.T.Traverse.ready (l.transform, l.ctx)
