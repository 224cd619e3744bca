use Rattle.std.proofs.Common.{◌≡◌, ◌+◌, ◌*◌, ◌++◌, drop, option_map}
use Rattle.es_base.specs.Preorder.{nodes, nodes_of, nodes_of_part}
use Rattle.es_base.specs.Tree.{trees, nullable, nullable_trees}
use Rattle.es_node.specs.View.{part_of, parts_in, parts_of}
use Rattle.es_marks.specs.Around.{around_here}
use Rattle.es_marks.specs.Marks.{form_in, marks_of}
use Rattle.es_owed_timely.specs.Search as found
use Rattle.es_owed_timely.specs.Walk.{around_at, marks_from}
use Rattle.es_owed_timely.proofs.walk.+marks.Given as goal

abbrev pub decreases-add_marks : goal.decreases-add_marks
decreases-add_marks l = 10 * nodes l.node.now

abbrev pub decreases-add_marks_inside : goal.decreases-add_marks_inside
decreases-add_marks_inside l = 10 * nodes_of (parts_in l.node.now) + 9

abbrev pub decreases-add_marks_of_call : goal.decreases-add_marks_of_call
decreases-add_marks_of_call l = 10 * nodes_of (parts_in l.node.now) + 8

abbrev pub decreases-add_marks_from : goal.decreases-add_marks_from
decreases-add_marks_from l = 10 * nodes_of (parts_of l.parts.now) + 7

abbrev pub decreases-add_marks_of_part : goal.decreases-add_marks_of_part
decreases-add_marks_of_part l = 10 * nodes_of_part (part_of l.part.now) + 4

abbrev pub decreases-add_marks_at : goal.decreases-add_marks_at
decreases-add_marks_at l = 10 * nodes_of_part (part_of l.part.now) + 3

abbrev pub decreases-add_marks_of_list : goal.decreases-add_marks_of_list
decreases-add_marks_of_list l = 10 * nodes_of (trees l.nodes.now) + 2

abbrev pub decreases-add_marks_of_list_with_holes : goal.decreases-add_marks_of_list_with_holes
decreases-add_marks_of_list_with_holes l = 10 * nodes_of (nullable_trees l.nodes.now) + 2

abbrev pub decreases-add_marks_of_hole : goal.decreases-add_marks_of_hole
decreases-add_marks_of_hole l = 10 * nodes_of_part (nullable l.node.now) + 1

abbrev pub decreases-add_marks_of_body : goal.decreases-add_marks_of_body
decreases-add_marks_of_body l = 10 * nodes_of (trees l.elements.now) + 8

abbrev pub decreases-add_keys : goal.decreases-add_keys
decreases-add_keys l = 10 * nodes_of (trees l.elements.now) + 7

abbrev pub decreases-add_key : goal.decreases-add_key
decreases-add_key l = 10 * nodes l.element.now

abbrev pub decreases-add_values : goal.decreases-add_values
decreases-add_values l = 10 * nodes_of (trees l.elements.now) + 7

abbrev pub decreases-add_value : goal.decreases-add_value
decreases-add_value l = 10 * nodes l.element.now

abbrev pub invariant-add_marks_from-loop-i : goal.invariant-add_marks_from-loop-i
invariant-add_marks_from-loop-i l =
    let of = marks_from l.search (around_at l.search (around_here l.around) l.node) l.gives (option_map form_in l.in_let) in
    marks_of l.marks.items ++ of l.i (parts_of (drop l.i l.parts)) ≡ marks_of l.fn.marks.items ++ of l.from (parts_of (drop l.from l.parts))

abbrev pub invariant-add_marks_of_list-loop-node : goal.invariant-add_marks_of_list-loop-node
invariant-add_marks_of_list-loop-node l =
    let of = found.marks_of l.search (around_here l.around) (option_map form_in l.in_let) in
    marks_of l.marks.items ++ of (trees (drop l.node-index l.nodes)) ≡ marks_of l.fn.marks.items ++ of (trees l.nodes)

abbrev pub invariant-add_marks_of_list_with_holes-loop-node : goal.invariant-add_marks_of_list_with_holes-loop-node
invariant-add_marks_of_list_with_holes-loop-node l =
    let of = found.marks_of l.search (around_here l.around) (option_map form_in l.in_let) in
    marks_of l.marks.items ++ of (nullable_trees (drop l.node-index l.nodes)) ≡ marks_of l.fn.marks.items ++ of (nullable_trees l.nodes)

abbrev pub invariant-add_keys-loop-element : goal.invariant-add_keys-loop-element
invariant-add_keys-loop-element l =
    let of = found.key_marks l.search (around_here l.around) in
    marks_of l.marks.items ++ of (trees (drop l.element-index l.elements)) ≡ marks_of l.fn.marks.items ++ of (trees l.elements)

abbrev pub invariant-add_values-loop-element : goal.invariant-add_values-loop-element
invariant-add_values-loop-element l =
    let of = found.value_marks l.search l.runs (around_here l.around) in
    marks_of l.marks.items ++ of (trees (drop l.element-index l.elements)) ≡ marks_of l.fn.marks.items ++ of (trees l.elements)
