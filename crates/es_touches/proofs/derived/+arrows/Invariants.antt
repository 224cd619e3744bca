use Rattle.std.proofs.Common.{◌≡◌, ◌+◌, ◌*◌, ◌++◌, drop}
use Rattle.es_base.specs.Preorder.{nodes, nodes_of, nodes_of_part}
use Rattle.es_base.specs.Tree.{trees, nullable, nullable_trees}
use Rattle.es_node.specs.View.{part_of, parts_in, parts_of}
use Rattle.es_lowered.specs.DeadZones.{arrows_in, arrows_of_keys}
use Rattle.es_touches.proofs.derived.+arrows.Given as goal

abbrev pub decreases-add_arrows : goal.decreases-add_arrows
decreases-add_arrows l = 10 * nodes l.node.now

abbrev pub decreases-add_arrows_inside : goal.decreases-add_arrows_inside
decreases-add_arrows_inside l = 10 * nodes_of (parts_in l.node.now) + 9

abbrev pub decreases-add_arrows_in : goal.decreases-add_arrows_in
decreases-add_arrows_in l = 10 * nodes_of (parts_of l.parts.now) + 8

abbrev pub decreases-add_arrows_of_body : goal.decreases-add_arrows_of_body
decreases-add_arrows_of_body l = 10 * nodes_of (parts_of l.parts.now) + 8

abbrev pub decreases-add_arrows_at : goal.decreases-add_arrows_at
decreases-add_arrows_at l = 10 * nodes_of_part (part_of l.part.now) + 3

abbrev pub decreases-add_arrows_of_list : goal.decreases-add_arrows_of_list
decreases-add_arrows_of_list l = 10 * nodes_of (trees l.nodes.now) + 2

abbrev pub decreases-add_arrows_of_list_with_holes : goal.decreases-add_arrows_of_list_with_holes
decreases-add_arrows_of_list_with_holes l = 10 * nodes_of (nullable_trees l.nodes.now) + 2

abbrev pub decreases-add_arrows_of_hole : goal.decreases-add_arrows_of_hole
decreases-add_arrows_of_hole l = 10 * nodes_of_part (nullable l.node.now) + 1

abbrev pub decreases-add_arrows_of_keys : goal.decreases-add_arrows_of_keys
decreases-add_arrows_of_keys l = 10 * nodes_of (trees l.elements.now) + 2

abbrev pub decreases-add_arrows_of_keys_with_holes : goal.decreases-add_arrows_of_keys_with_holes
decreases-add_arrows_of_keys_with_holes l = 10 * nodes_of (nullable_trees l.elements.now) + 2

abbrev pub decreases-add_arrows_of_key_hole : goal.decreases-add_arrows_of_key_hole
decreases-add_arrows_of_key_hole l = 10 * nodes_of_part (nullable l.element.now) + 1

abbrev pub decreases-add_arrows_of_key : goal.decreases-add_arrows_of_key
decreases-add_arrows_of_key l = 10 * nodes l.element.now

abbrev pub decreases-add_arrows_at_if : goal.decreases-add_arrows_at_if
decreases-add_arrows_at_if l = 10 * nodes_of_part (part_of l.part.now) + 4

abbrev pub invariant-add_arrows_in-loop-part : goal.invariant-add_arrows_in-loop-part
invariant-add_arrows_in-loop-part l = l.numbers.items ++ arrows_in (parts_of (drop l.part-index l.parts)) ≡ l.fn.numbers.items ++ arrows_in (parts_of l.parts)

abbrev pub invariant-add_arrows_of_list-loop-node : goal.invariant-add_arrows_of_list-loop-node
invariant-add_arrows_of_list-loop-node l = l.numbers.items ++ arrows_in (trees (drop l.node-index l.nodes)) ≡ l.fn.numbers.items ++ arrows_in (trees l.nodes)

abbrev pub invariant-add_arrows_of_list_with_holes-loop-node : goal.invariant-add_arrows_of_list_with_holes-loop-node
invariant-add_arrows_of_list_with_holes-loop-node l = l.numbers.items ++ arrows_in (nullable_trees (drop l.node-index l.nodes)) ≡ l.fn.numbers.items ++ arrows_in (nullable_trees l.nodes)

abbrev pub invariant-add_arrows_of_keys-loop-element : goal.invariant-add_arrows_of_keys-loop-element
invariant-add_arrows_of_keys-loop-element l = l.numbers.items ++ arrows_of_keys (trees (drop l.element-index l.elements)) ≡ l.fn.numbers.items ++ arrows_of_keys (trees l.elements)

abbrev pub invariant-add_arrows_of_keys_with_holes-loop-element : goal.invariant-add_arrows_of_keys_with_holes-loop-element
invariant-add_arrows_of_keys_with_holes-loop-element l = l.numbers.items ++ arrows_of_keys (nullable_trees (drop l.element-index l.elements)) ≡ l.fn.numbers.items ++ arrows_of_keys (nullable_trees l.elements)
