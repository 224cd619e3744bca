use Rattle.std.proofs.Common.{List, ◌+◌, ◌*◌, drop}
use Rattle.es_base.specs.Preorder.{nodes, nodes_of, nodes_of_part}
use Rattle.es_base.specs.Tree.{trees, nullable, nullable_trees}
use Rattle.es_node.specs.View.{part_of, parts_of}
use Rattle.es_visit.specs.Reading.{Entry, reading_below, reading_items}
use Rattle.es_visit.proofs.visit.+walk.Given as goal

abbrev pub decreases-walk_node : goal.decreases-walk_node
decreases-walk_node g l = 5 * nodes l.node.now

abbrev pub decreases-walk_parts : goal.decreases-walk_parts
decreases-walk_parts g l = 5 * nodes_of (parts_of l.parts.now) + 4

abbrev pub decreases-walk_part : goal.decreases-walk_part
decreases-walk_part g l = 5 * nodes_of_part (part_of l.part.now) + 3

abbrev pub decreases-walk_nodes : goal.decreases-walk_nodes
decreases-walk_nodes g l = 5 * nodes_of (trees l.nodes.now) + 2

abbrev pub decreases-walk_nodes_or_holes : goal.decreases-walk_nodes_or_holes
decreases-walk_nodes_or_holes g l = 5 * nodes_of (nullable_trees l.nodes.now) + 2

abbrev pub decreases-walk_node_or_hole : goal.decreases-walk_node_or_hole
decreases-walk_node_or_hole g l = 5 * nodes_of_part (nullable l.node.now) + 1

abbrev pub invariant-walk_parts-loop-i : goal.invariant-walk_parts-loop-i
invariant-walk_parts-loop-i g l = (rest : List Entry) (end : _) → g.V.Visit.leads l.visitor (reading_below g.V.Visit.goes l.kind l.computed l.i (parts_of (drop l.i l.parts)) rest) end → g.V.Visit.leads l.initial.visitor (reading_below g.V.Visit.goes l.kind l.computed 0 (parts_of l.parts) rest) end

abbrev pub invariant-walk_nodes-loop-node : goal.invariant-walk_nodes-loop-node
invariant-walk_nodes-loop-node g l = (rest : List Entry) (end : _) → g.V.Visit.leads l.visitor (reading_items g.V.Visit.goes l.role (trees (drop l.node-index l.nodes)) rest) end → g.V.Visit.leads l.initial.visitor (reading_items g.V.Visit.goes l.role (trees l.nodes) rest) end

abbrev pub invariant-walk_nodes_or_holes-loop-node : goal.invariant-walk_nodes_or_holes-loop-node
invariant-walk_nodes_or_holes-loop-node g l = (rest : List Entry) (end : _) → g.V.Visit.leads l.visitor (reading_items g.V.Visit.goes l.role (nullable_trees (drop l.node-index l.nodes)) rest) end → g.V.Visit.leads l.initial.visitor (reading_items g.V.Visit.goes l.role (nullable_trees l.nodes) rest) end
