use Rattle.std.proofs.Common.{◌≡◌, ◌+◌, ◌*◌, drop}
use Rattle.es_base.specs.Preorder.{nodes, nodes_of, nodes_of_part}
use Rattle.es_base.specs.Tree.{trees, nullable, nullable_trees}
use Rattle.es_node.specs.View.{kind_of, parts_in, part_of, parts_of}
use Rattle.es_validity.specs.Faults.{first_with}
use Rattle.es_validity.specs.Found.{found}
use Rattle.es_validity.specs.Privates.{seen_by, declares_at, private_faults_from, private_item_faults}
use Rattle.es_validity.specs.Reached.{reach_of}
use Rattle.es_validity.proofs.privates.+privates.Given as goal

abbrev pub decreases-node_privates : goal.decreases-node_privates
decreases-node_privates l = 5 * nodes l.node.now

abbrev pub decreases-parts_privates : goal.decreases-parts_privates
decreases-parts_privates l = 5 * nodes_of (parts_in l.node.now) + 4

abbrev pub decreases-part_privates : goal.decreases-part_privates
decreases-part_privates l = 5 * nodes_of_part (part_of l.part.now) + 3

abbrev pub decreases-list_privates : goal.decreases-list_privates
decreases-list_privates l = 5 * nodes_of (trees l.nodes.now) + 2

abbrev pub decreases-list_with_holes_privates : goal.decreases-list_with_holes_privates
decreases-list_with_holes_privates l = 5 * nodes_of (nullable_trees l.nodes.now) + 2

abbrev pub decreases-hole_privates : goal.decreases-hole_privates
decreases-hole_privates l = 5 * nodes_of_part (nullable l.node.now) + 1

abbrev pub invariant-parts_privates-loop-i : goal.invariant-parts_privates-loop-i
invariant-parts_privates-loop-i l =
    let names = seen_by (reach_of l.inner) (reach_of l.reach) in
    first_with (found l.first) (private_faults_from names (declares_at (kind_of l.node)) l.i (parts_of (drop l.i l.parts))) ≡ first_with (found l.initial.first) (private_faults_from names (declares_at (kind_of l.node)) 0 (parts_of l.parts))

abbrev pub invariant-list_privates-loop-node : goal.invariant-list_privates-loop-node
invariant-list_privates-loop-node l = first_with (found l.first) (private_item_faults (reach_of l.reach) (trees (drop l.node-index l.nodes))) ≡ first_with (found l.initial.first) (private_item_faults (reach_of l.reach) (trees l.nodes))

abbrev pub invariant-list_with_holes_privates-loop-node : goal.invariant-list_with_holes_privates-loop-node
invariant-list_with_holes_privates-loop-node l = first_with (found l.first) (private_item_faults (reach_of l.reach) (nullable_trees (drop l.node-index l.nodes))) ≡ first_with (found l.initial.first) (private_item_faults (reach_of l.reach) (nullable_trees l.nodes))
