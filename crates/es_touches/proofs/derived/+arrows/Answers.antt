use Rattle.std.proofs.Common.{ap, arith, refl}
use Rattle.es_base.specs.Preorder.{nodes, nodes_of_part}
use Rattle.es_base.specs.Tree.{nullable, nullable_trees, trees}
use Rattle.es_binding_faults.proofs.Appending.{appended}
use Rattle.es_lowered.specs.DeadZones.{arrows, arrows_at, arrows_in, arrows_of_keys}
use Rattle.es_node.proofs.Below.{part_below, tree_below, hole_below}
use Rattle.es_node.specs.View.{part_of, parts_of}
use Rattle.es_touches.proofs.DerivedFunctions.{keys_more, keys_more_hole}
use Rattle.es_touches.specs.Derived.{arrows_of_key, arrows_of_key_hole}
use Rattle.es_touches.proofs.derived.+arrows.Goals as goal

pub add_arrows_in-add_arrows_at-requires : goal.add_arrows_in-add_arrows_at-requires
add_arrows_in-add_arrows_at-requires t c = (omega (arith, part_below c.args.parts.now c.loop-part.part-index c.part-item.result c.loop-part-test.true, ap (λ p. nodes_of_part (part_of p)) c.part-item.is, c.decreases), tt)

pub add_arrows_in-loop-part-preserved : goal.add_arrows_in-loop-part-preserved
add_arrows_in-loop-part-preserved t c = appended (λ i xs. arrows_in (parts_of xs)) (λ i u. arrows_at (part_of u)) (λ i u us. refl) c.loop-part.numbers.items c.add_arrows_at.new.numbers.items _ c.args.parts.now c.loop-part.part-index c.part-item.result c.loop-part-test.true c.part-item.is c.in_ok-add_arrows_at.ensures c.loop-part.invariant

pub add_arrows_of_list-add_arrows-requires : goal.add_arrows_of_list-add_arrows-requires
add_arrows_of_list-add_arrows-requires t c = (omega (arith, tree_below c.args.nodes.now c.loop-node.node-index c.node-item.result c.loop-node-test.true, ap nodes c.node-item.is, c.decreases), tt)

pub add_arrows_of_list-loop-node-preserved : goal.add_arrows_of_list-loop-node-preserved
add_arrows_of_list-loop-node-preserved t c = appended (λ i xs. arrows_in (trees xs)) (λ i u. arrows u) (λ i u us. refl) c.loop-node.numbers.items c.add_arrows.new.numbers.items _ c.args.nodes.now c.loop-node.node-index c.node-item.result c.loop-node-test.true c.node-item.is c.in_ok-add_arrows.ensures c.loop-node.invariant

pub add_arrows_of_list_with_holes-add_arrows_of_hole-requires : goal.add_arrows_of_list_with_holes-add_arrows_of_hole-requires
add_arrows_of_list_with_holes-add_arrows_of_hole-requires t c = (omega (arith, hole_below c.args.nodes.now c.loop-node.node-index c.node-item.result c.loop-node-test.true, ap (λ n. nodes_of_part (nullable n)) c.node-item.is, c.decreases), tt)

pub add_arrows_of_list_with_holes-loop-node-preserved : goal.add_arrows_of_list_with_holes-loop-node-preserved
add_arrows_of_list_with_holes-loop-node-preserved t c = appended (λ i xs. arrows_in (nullable_trees xs)) (λ i u. arrows_at (nullable u)) (λ i u us. refl) c.loop-node.numbers.items c.add_arrows_of_hole.new.numbers.items _ c.args.nodes.now c.loop-node.node-index c.node-item.result c.loop-node-test.true c.node-item.is c.in_ok-add_arrows_of_hole.ensures c.loop-node.invariant

pub add_arrows_of_keys-add_arrows_of_key-requires : goal.add_arrows_of_keys-add_arrows_of_key-requires
add_arrows_of_keys-add_arrows_of_key-requires t c = (omega (arith, tree_below c.args.elements.now c.loop-element.element-index c.element-item.result c.loop-element-test.true, ap nodes c.element-item.is, c.decreases), tt)

pub add_arrows_of_keys-loop-element-preserved : goal.add_arrows_of_keys-loop-element-preserved
add_arrows_of_keys-loop-element-preserved t c = appended (λ i xs. arrows_of_keys (trees xs)) (λ i u. arrows_of_key u) (λ i u us. keys_more u (trees us)) c.loop-element.numbers.items c.add_arrows_of_key.new.numbers.items _ c.args.elements.now c.loop-element.element-index c.element-item.result c.loop-element-test.true c.element-item.is c.in_ok-add_arrows_of_key.ensures c.loop-element.invariant

pub add_arrows_of_keys_with_holes-add_arrows_of_key_hole-requires : goal.add_arrows_of_keys_with_holes-add_arrows_of_key_hole-requires
add_arrows_of_keys_with_holes-add_arrows_of_key_hole-requires t c = (omega (arith, hole_below c.args.elements.now c.loop-element.element-index c.element-item.result c.loop-element-test.true, ap (λ n. nodes_of_part (nullable n)) c.element-item.is, c.decreases), tt)

pub add_arrows_of_keys_with_holes-loop-element-preserved : goal.add_arrows_of_keys_with_holes-loop-element-preserved
add_arrows_of_keys_with_holes-loop-element-preserved t c = appended (λ i xs. arrows_of_keys (nullable_trees xs)) (λ i u. arrows_of_key_hole u) (λ i u us. keys_more_hole u (nullable_trees us)) c.loop-element.numbers.items c.add_arrows_of_key_hole.new.numbers.items _ c.args.elements.now c.loop-element.element-index c.element-item.result c.loop-element-test.true c.element-item.is c.in_ok-add_arrows_of_key_hole.ensures c.loop-element.invariant
