use Rattle.std.proofs.Common.{◌≡◌, ◌+◌, ◌*◌, ◌++◌, drop}
use Rattle.es_base.specs.Preorder.{nodes, nodes_of, nodes_of_part}
use Rattle.es_base.specs.Tree.{trees, nullable, nullable_trees}
use Rattle.es_node.specs.View.{part_of, parts_in, parts_of}
use Rattle.es_touches.specs.Touches.{kept_touches}
use Rattle.es_owed_dead_zones.specs.Walk.{joined, keys_touched, spot_at, spot_of, touches_from, touches_of, values_touched}
use Rattle.es_owed_dead_zones.proofs.walk.+touches.Given as goal

abbrev pub decreases-add_touches : goal.decreases-add_touches
decreases-add_touches l = 30 * nodes l.node.now

abbrev pub decreases-add_inside : goal.decreases-add_inside
decreases-add_inside l = 30 * nodes_of (parts_in l.node.now) + 28

abbrev pub decreases-add_turned : goal.decreases-add_turned
decreases-add_turned l = 30 * nodes_of (parts_in l.node.now) + 18

abbrev pub decreases-add_keyed : goal.decreases-add_keyed
decreases-add_keyed l = 30 * nodes_of (parts_in l.node.now) + 18

abbrev pub decreases-add_by_kind : goal.decreases-add_by_kind
decreases-add_by_kind l = 30 * nodes_of (parts_in l.node.now) + 18

abbrev pub decreases-add_class : goal.decreases-add_class
decreases-add_class l = 30 * nodes_of (parts_in l.node.now) + 18

abbrev pub decreases-add_call : goal.decreases-add_call
decreases-add_call l = 30 * nodes_of (parts_in l.node.now) + 17

abbrev pub decreases-add_template : goal.decreases-add_template
decreases-add_template l = 30 * nodes_of (parts_in l.node.now) + 17

abbrev pub decreases-add_default : goal.decreases-add_default
decreases-add_default l = 30 * nodes_of (parts_in l.node.now) + 17

abbrev pub decreases-add_assignment : goal.decreases-add_assignment
decreases-add_assignment l = 30 * nodes_of (parts_in l.node.now) + 17

abbrev pub decreases-add_called : goal.decreases-add_called
decreases-add_called l = 30 * nodes l.arrow.now

abbrev pub decreases-add_joined : goal.decreases-add_joined
decreases-add_joined l = 30 * nodes_of (trees l.expressions.now) + 13

abbrev pub decreases-add_converted : goal.decreases-add_converted
decreases-add_converted l = 30 * nodes l.expression.now + 1

abbrev pub decreases-add_from : goal.decreases-add_from
decreases-add_from l = 30 * nodes_of (parts_of l.parts.now) + 16

abbrev pub decreases-add_part : goal.decreases-add_part
decreases-add_part l = 30 * nodes_of_part (part_of l.part.now) + 15

abbrev pub decreases-add_at : goal.decreases-add_at
decreases-add_at l = 30 * nodes_of_part (part_of l.part.now) + 14

abbrev pub decreases-add_of_parts : goal.decreases-add_of_parts
decreases-add_of_parts l = 30 * nodes_of (parts_of l.parts.now) + 16

abbrev pub decreases-add_of_list : goal.decreases-add_of_list
decreases-add_of_list l = 30 * nodes_of (trees l.nodes.now) + 13

abbrev pub decreases-add_of_list_with_holes : goal.decreases-add_of_list_with_holes
decreases-add_of_list_with_holes l = 30 * nodes_of (nullable_trees l.nodes.now) + 13

abbrev pub decreases-add_of_hole : goal.decreases-add_of_hole
decreases-add_of_hole l = 30 * nodes_of_part (nullable l.node.now) + 12

abbrev pub decreases-add_keys_in : goal.decreases-add_keys_in
decreases-add_keys_in l = 30 * nodes_of_part (part_of l.body.now) + 13

abbrev pub decreases-add_keys_of : goal.decreases-add_keys_of
decreases-add_keys_of l = 30 * nodes l.body.now

abbrev pub decreases-add_keys : goal.decreases-add_keys
decreases-add_keys l = 30 * nodes_of (trees l.elements.now) + 12

abbrev pub decreases-add_keys_with_holes : goal.decreases-add_keys_with_holes
decreases-add_keys_with_holes l = 30 * nodes_of (nullable_trees l.elements.now) + 12

abbrev pub decreases-add_key_of_hole : goal.decreases-add_key_of_hole
decreases-add_key_of_hole l = 30 * nodes_of_part (nullable l.element.now) + 11

abbrev pub decreases-add_key : goal.decreases-add_key
decreases-add_key l = 30 * nodes l.element.now

abbrev pub decreases-add_at_if : goal.decreases-add_at_if
decreases-add_at_if l = 30 * nodes_of_part (part_of l.part.now) + 15

abbrev pub decreases-add_running : goal.decreases-add_running
decreases-add_running l = 30 * nodes_of_part (part_of l.body.now) + 16

abbrev pub decreases-add_values_in : goal.decreases-add_values_in
decreases-add_values_in l = 30 * nodes_of_part (part_of l.body.now) + 13

abbrev pub decreases-add_values_of : goal.decreases-add_values_of
decreases-add_values_of l = 30 * nodes l.body.now

abbrev pub decreases-add_values : goal.decreases-add_values
decreases-add_values l = 30 * nodes_of (trees l.elements.now) + 12

abbrev pub decreases-add_values_with_holes : goal.decreases-add_values_with_holes
decreases-add_values_with_holes l = 30 * nodes_of (nullable_trees l.elements.now) + 12

abbrev pub decreases-add_value_of_hole : goal.decreases-add_value_of_hole
decreases-add_value_of_hole l = 30 * nodes_of_part (nullable l.element.now) + 11

abbrev pub decreases-add_value : goal.decreases-add_value
decreases-add_value l = 30 * nodes l.element.now

abbrev pub invariant-add_from-loop-i : goal.invariant-add_from-loop-i
invariant-add_from-loop-i l =
    let of = touches_from l.terms (spot_at (spot_of l.spot) l.node) in
    kept_touches l.touches.items ++ of l.i (parts_of (drop l.i l.parts)) ≡ kept_touches l.fn.touches.items ++ of l.from (parts_of (drop l.from l.parts))

abbrev pub invariant-add_of_parts-loop-part : goal.invariant-add_of_parts-loop-part
invariant-add_of_parts-loop-part l = kept_touches l.touches.items ++ touches_of l.terms (spot_of l.spot) (parts_of (drop l.part-index l.parts)) ≡ kept_touches l.fn.touches.items ++ touches_of l.terms (spot_of l.spot) (parts_of l.parts)

abbrev pub invariant-add_of_list-loop-node : goal.invariant-add_of_list-loop-node
invariant-add_of_list-loop-node l = kept_touches l.touches.items ++ touches_of l.terms (spot_of l.spot) (trees (drop l.node-index l.nodes)) ≡ kept_touches l.fn.touches.items ++ touches_of l.terms (spot_of l.spot) (trees l.nodes)

abbrev pub invariant-add_of_list_with_holes-loop-node : goal.invariant-add_of_list_with_holes-loop-node
invariant-add_of_list_with_holes-loop-node l = kept_touches l.touches.items ++ touches_of l.terms (spot_of l.spot) (nullable_trees (drop l.node-index l.nodes)) ≡ kept_touches l.fn.touches.items ++ touches_of l.terms (spot_of l.spot) (nullable_trees l.nodes)

abbrev pub invariant-add_joined-loop-expression : goal.invariant-add_joined-loop-expression
invariant-add_joined-loop-expression l = kept_touches l.touches.items ++ joined l.terms (spot_of l.spot) (trees (drop l.expression-index l.expressions)) ≡ kept_touches l.fn.touches.items ++ joined l.terms (spot_of l.spot) (trees l.expressions)

abbrev pub invariant-add_keys-loop-element : goal.invariant-add_keys-loop-element
invariant-add_keys-loop-element l = kept_touches l.touches.items ++ keys_touched l.terms (spot_of l.spot) (trees (drop l.element-index l.elements)) ≡ kept_touches l.fn.touches.items ++ keys_touched l.terms (spot_of l.spot) (trees l.elements)

abbrev pub invariant-add_keys_with_holes-loop-element : goal.invariant-add_keys_with_holes-loop-element
invariant-add_keys_with_holes-loop-element l = kept_touches l.touches.items ++ keys_touched l.terms (spot_of l.spot) (nullable_trees (drop l.element-index l.elements)) ≡ kept_touches l.fn.touches.items ++ keys_touched l.terms (spot_of l.spot) (nullable_trees l.elements)

abbrev pub invariant-add_values-loop-element : goal.invariant-add_values-loop-element
invariant-add_values-loop-element l = kept_touches l.touches.items ++ values_touched l.terms l.runs (spot_of l.spot) (trees (drop l.element-index l.elements)) ≡ kept_touches l.fn.touches.items ++ values_touched l.terms l.runs (spot_of l.spot) (trees l.elements)

abbrev pub invariant-add_values_with_holes-loop-element : goal.invariant-add_values_with_holes-loop-element
invariant-add_values_with_holes-loop-element l = kept_touches l.touches.items ++ values_touched l.terms l.runs (spot_of l.spot) (nullable_trees (drop l.element-index l.elements)) ≡ kept_touches l.fn.touches.items ++ values_touched l.terms l.runs (spot_of l.spot) (nullable_trees l.elements)

abbrev pub decreases-add_keys_at : goal.decreases-add_keys_at
decreases-add_keys_at l = 30 * nodes_of_part (part_of l.part.now) + 14

abbrev pub decreases-add_values_at : goal.decreases-add_values_at
decreases-add_values_at l = 30 * nodes_of_part (part_of l.part.now) + 14

abbrev pub decreases-add_element : goal.decreases-add_element
decreases-add_element l = 30 * nodes_of (parts_of l.parts.now) + 19

abbrev pub decreases-add_behind : goal.decreases-add_behind
decreases-add_behind l = 30 * nodes_of (parts_of l.parts.now) + 17

abbrev pub decreases-add_first : goal.decreases-add_first
decreases-add_first l = 30 * nodes_of (parts_of l.parts.now) + 18

abbrev pub decreases-add_whole : goal.decreases-add_whole
decreases-add_whole l = 30 * nodes_of (parts_in l.node.now) + 29
