use Rattle.std.proofs.Common.{◌≡◌, ◌++◌, drop}
use Rattle.es_base.specs.Preorder.{preorder_of}
use Rattle.es_base.specs.Tree.{nullable_trees}
use Rattle.es_binding_faults.specs.Seen.{seen}
use Rattle.es_touches.proofs.below.add_nodes_of_list_with_holes.Given as goal

abbrev pub invariant-loop-item : goal.invariant-loop-item
invariant-loop-item l = seen l.nodes.items ++ preorder_of (nullable_trees (drop l.item-index l.items)) ≡ seen l.fn.nodes.items ++ preorder_of (nullable_trees l.items)
