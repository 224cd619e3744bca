use Rattle.std.proofs.Common.{◌≡◌, ◌+◌, ◌*◌, ◌++◌, drop}
use Rattle.es_base.specs.Preorder.{nodes, nodes_of, nodes_of_part}
use Rattle.es_base.specs.Table.{members_of}
use Rattle.es_base.specs.Tree.{trees, nullable, nullable_trees}
use Rattle.es_node.specs.View.{kind_of, number_in, part_of, parts_in, parts_of}
use Rattle.es_steps.specs.Scopes.{is_body_part}
use Rattle.es_binding_faults.specs.Evals.{declared_in, free_evals_from, free_evals_of}
use Rattle.es_binding_faults.specs.Repeats.{numbers}
use Rattle.es_binding_faults.proofs.evals.+evals.Given as goal

abbrev pub decreases-add_evals : goal.decreases-add_evals
decreases-add_evals l = 5 * nodes l.node.now

abbrev pub decreases-add_evals_in_parts : goal.decreases-add_evals_in_parts
decreases-add_evals_in_parts l = 5 * nodes_of (parts_in l.node.now) + 4

abbrev pub decreases-add_evals_in_part : goal.decreases-add_evals_in_part
decreases-add_evals_in_part l = 5 * nodes_of_part (part_of l.part.now) + 3

abbrev pub decreases-add_evals_in_list : goal.decreases-add_evals_in_list
decreases-add_evals_in_list l = 5 * nodes_of (trees l.nodes.now) + 2

abbrev pub decreases-add_evals_in_list_with_holes : goal.decreases-add_evals_in_list_with_holes
decreases-add_evals_in_list_with_holes l = 5 * nodes_of (nullable_trees l.nodes.now) + 2

abbrev pub decreases-add_evals_in_hole : goal.decreases-add_evals_in_hole
decreases-add_evals_in_hole l = 5 * nodes_of_part (nullable l.node.now) + 1

abbrev pub invariant-add_evals_in_parts-loop-i : goal.invariant-add_evals_in_parts-loop-i
invariant-add_evals_in_parts-loop-i l =
    let declared = declared_in l.declared l.is_body (kind_of l.node) (number_in l.node) (parts_in l.node) in
    numbers l.evals.items ++ free_evals_from declared (is_body_part (kind_of l.node)) l.i (drop l.i (members_of (kind_of l.node))) (parts_of (drop l.i l.parts)) ≡ numbers l.fn.evals.items ++ free_evals_from declared (is_body_part (kind_of l.node)) 0 (members_of (kind_of l.node)) (parts_in l.node)

abbrev pub invariant-add_evals_in_list-loop-node : goal.invariant-add_evals_in_list-loop-node
invariant-add_evals_in_list-loop-node l = numbers l.evals.items ++ free_evals_of l.declared (trees (drop l.node-index l.nodes)) ≡ numbers l.fn.evals.items ++ free_evals_of l.declared (trees l.nodes)

abbrev pub invariant-add_evals_in_list_with_holes-loop-node : goal.invariant-add_evals_in_list_with_holes-loop-node
invariant-add_evals_in_list_with_holes-loop-node l = numbers l.evals.items ++ free_evals_of l.declared (nullable_trees (drop l.node-index l.nodes)) ≡ numbers l.fn.evals.items ++ free_evals_of l.declared (nullable_trees l.nodes)
