use Rattle.std.proofs.Common.{◌+◌, drop}
use Rattle.es_base.specs.Tree.{nullable, trees, nullable_trees}
use Rattle.es_node.specs.View.{part_of, parts_of}
use Rattle.es_writing.specs.Kept.{AreKept}
use Rattle.es_writing.proofs.Sizes.{tree_size, part_size, parts_size}
use Rattle.es_writing.proofs.kept.+kept.Given as goal

abbrev pub decreases-visit_tree : goal.decreases-visit_tree
decreases-visit_tree l = tree_size l.node.now

abbrev pub decreases-visit_parts : goal.decreases-visit_parts
decreases-visit_parts l = parts_size (parts_of l.parts.now) + 2

abbrev pub decreases-visit_part : goal.decreases-visit_part
decreases-visit_part l = part_size (part_of l.part.now) + 1

abbrev pub decreases-visit_nodes : goal.decreases-visit_nodes
decreases-visit_nodes l = parts_size (trees l.nodes.now) + 2

abbrev pub decreases-visit_nullable_nodes : goal.decreases-visit_nullable_nodes
decreases-visit_nullable_nodes l = parts_size (nullable_trees l.nodes.now) + 2

abbrev pub decreases-visit_nullable_node : goal.decreases-visit_nullable_node
decreases-visit_nullable_node l = part_size (nullable l.node.now) + 1

abbrev pub invariant-visit_parts-loop-part : goal.invariant-visit_parts-loop-part
invariant-visit_parts-loop-part l = AreKept (parts_of (drop l.part-index l.parts)) → AreKept (parts_of l.parts)

abbrev pub invariant-visit_nodes-loop-node : goal.invariant-visit_nodes-loop-node
invariant-visit_nodes-loop-node l = AreKept (trees (drop l.node-index l.nodes)) → AreKept (trees l.nodes)

abbrev pub invariant-visit_nullable_nodes-loop-node : goal.invariant-visit_nullable_nodes-loop-node
invariant-visit_nullable_nodes-loop-node l = AreKept (nullable_trees (drop l.node-index l.nodes)) → AreKept (nullable_trees l.nodes)
