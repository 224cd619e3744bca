use Rattle.std.proofs.Common.{◌≡◌, ◌+◌, ◌*◌, drop}
use Rattle.es_base.specs.Preorder.{nodes, nodes_of, nodes_of_part}
use Rattle.es_base.specs.Tree.{trees, nullable, nullable_trees}
use Rattle.es_node.specs.View.{kind_of, parts_in, part_of, parts_of}
use Rattle.es_validity.specs.Around.{inside}
use Rattle.es_validity.specs.Faults.{first_with, faults_from, item_faults}
use Rattle.es_validity.specs.Found.{found}
use Rattle.es_validity.specs.Known.{around_of}
use Rattle.es_validity.proofs.walk.+faults.Given as goal

abbrev pub decreases-node_faults : goal.decreases-node_faults
decreases-node_faults l = 5 * nodes l.node.now

abbrev pub decreases-parts_faults : goal.decreases-parts_faults
decreases-parts_faults l = 5 * nodes_of (parts_in l.node.now) + 4

abbrev pub decreases-part_faults : goal.decreases-part_faults
decreases-part_faults l = 5 * nodes_of_part (part_of l.part.now) + 3

abbrev pub decreases-list_faults : goal.decreases-list_faults
decreases-list_faults l = 5 * nodes_of (trees l.nodes.now) + 2

abbrev pub decreases-list_with_holes_faults : goal.decreases-list_with_holes_faults
decreases-list_with_holes_faults l = 5 * nodes_of (nullable_trees l.nodes.now) + 2

abbrev pub decreases-hole_faults : goal.decreases-hole_faults
decreases-hole_faults l = 5 * nodes_of_part (nullable l.node.now) + 1

abbrev pub invariant-parts_faults-loop-i : goal.invariant-parts_faults-loop-i
invariant-parts_faults-loop-i l =
    let around = inside (around_of l.around) (kind_of l.node) (parts_in l.node) in
    first_with (found l.first) (faults_from l.options around l.i (parts_of (drop l.i l.parts))) ≡ first_with (found l.initial.first) (faults_from l.options around 0 (parts_of l.parts))

abbrev pub invariant-list_faults-loop-node : goal.invariant-list_faults-loop-node
invariant-list_faults-loop-node l =
    first_with (found l.first) (item_faults l.options (around_of l.around) (trees (drop l.node-index l.nodes))) ≡ first_with (found l.initial.first) (item_faults l.options (around_of l.around) (trees l.nodes))

abbrev pub invariant-list_with_holes_faults-loop-node : goal.invariant-list_with_holes_faults-loop-node
invariant-list_with_holes_faults-loop-node l =
    first_with (found l.first) (item_faults l.options (around_of l.around) (nullable_trees (drop l.node-index l.nodes))) ≡ first_with (found l.initial.first) (item_faults l.options (around_of l.around) (nullable_trees l.nodes))
