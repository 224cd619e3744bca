use Rattle.std.proofs.Common.{◌≡◌, ◌∙◌, sym, ◌+◌, [], ◌++◌, drop, arith, ap, subst, get_or, map}
use Rattle.std.specs.Prelude.{IfOk}
use Rattle.es_base.specs.Preorder.{nodes, nodes_of, nodes_of_part}
use Rattle.es_base.specs.Tree.{nullable, trees, nullable_trees}
use Rattle.es_node.proofs.Below.{part_below, tree_below, hole_below}
use Rattle.es_node.specs.View.{kind_of, parts_in, part_of, parts_of}
use Rattle.es_validity.proofs.Reaching.{node_met, next_private_part, next_private_item, next_private_hole}
use Rattle.es_validity.specs.Faults.{first_with, fault_at}
use Rattle.es_validity.specs.Found.{found}
use Rattle.es_validity.specs.Privates.{members_in, duplicates, seen_by, declares_at, private_faults_from, private_part_faults, private_item_faults}
use Rattle.es_validity.specs.Reached.{reach_of}
use Rattle.es_validity.specs.declared.fault.Cause.{Cause}
use Rattle.es_validity.proofs.privates.+privates.Goals as goal

pub list_privates-node_privates-requires : goal.list_privates-node_privates-requires
list_privates-node_privates-requires t c =
    let node = c.node-item.result in
    let same : nodes node ≡ nodes (get_or c.args.nodes.now c.loop-node.node-index node) = ap nodes c.node-item.is in
    let below = tree_below c.args.nodes.now c.loop-node.node-index node c.loop-node-test.true in
    (omega (arith, below, same, c.decreases), tt)

pub list_with_holes_privates-hole_privates-requires : goal.list_with_holes_privates-hole_privates-requires
list_with_holes_privates-hole_privates-requires t c =
    let node = c.node-item.result in
    let same : nodes_of_part (nullable node) ≡ nodes_of_part (nullable (get_or c.args.nodes.now c.loop-node.node-index node)) = ap (λ n. nodes_of_part (nullable n)) c.node-item.is in
    let below = hole_below c.args.nodes.now c.loop-node.node-index node c.loop-node-test.true in
    (omega (arith, below, same, c.decreases), tt)

pub list_privates-loop-node-preserved : goal.list_privates-loop-node-preserved
list_privates-loop-node-preserved t c =
    let names = reach_of c.args.reach.now in
    let rest = private_item_faults names (trees (drop (c.loop-node.node-index + 1) c.args.nodes.now)) in
    ap (λ f. first_with f rest) c.in_ok-first.ensures
    ∙ sym (next_private_item names (found c.loop-node.first) c.args.nodes.now c.loop-node.node-index c.node-item.result c.loop-node-test.true c.node-item.is)
    ∙ c.loop-node.invariant

pub list_with_holes_privates-loop-node-preserved : goal.list_with_holes_privates-loop-node-preserved
list_with_holes_privates-loop-node-preserved t c =
    let names = reach_of c.args.reach.now in
    let rest = private_item_faults names (nullable_trees (drop (c.loop-node.node-index + 1) c.args.nodes.now)) in
    ap (λ f. first_with f rest) c.in_ok-first.ensures
    ∙ sym (next_private_hole names (found c.loop-node.first) c.args.nodes.now c.loop-node.node-index c.node-item.result c.loop-node-test.true c.node-item.is)
    ∙ c.loop-node.invariant

pub node_privates-returns : goal.node_privates-returns
node_privates-returns t c =
    let names = reach_of c.args.reach.now in
    let node = c.args.node.now in
    let first = found c.args.first in
    let again = map (fault_at Cause.DuplicatePrivate) (duplicates [] (members_in (kind_of node) (parts_in node))) in
    let below = private_faults_from (seen_by (c.in_ok-class.class.names ++ names) names) (declares_at (kind_of node)) 0 (parts_in node) in
    subst (λ z. IfOk c.parts_privates.result (λ r. found r ≡ z)) (
    ap (λ f. first_with f below) (c.in_ok-class.ensures.1 ∙ ap (λ f. first_with f again) c.undeclared-first.ensures)
    ∙ sym (node_met names c.in_ok-class.class.names c.args.declares first node c.in_ok-class.ensures.0)
    ) c.parts_privates.ensures

pub parts_privates-part_privates-requires : goal.parts_privates-part_privates-requires
parts_privates-part_privates-requires t c =
    let parts = c.parts-parts.result.now in
    let part = c.index-parts-i.result in
    let same : nodes_of_part (part_of part) ≡ nodes_of_part (part_of (get_or parts c.loop-i.i part)) = ap (λ p. nodes_of_part (part_of p)) c.index-parts-i.is in
    let below = part_below parts c.loop-i.i part c.loop-i-test.true in
    let all : nodes_of (parts_in c.args.node.now) ≡ nodes_of (parts_of parts) = ap nodes_of c.parts-parts.ensures.list in
    (omega (arith, below, same, all, c.decreases), tt)

pub parts_privates-loop-i-preserved : goal.parts_privates-loop-i-preserved
parts_privates-loop-i-preserved t c =
    let names = seen_by (reach_of c.args.inner.now) (reach_of c.args.reach.now) in
    let declares = declares_at (kind_of c.args.node.now) in
    let parts = c.parts-parts.result.now in
    let part = c.index-parts-i.result in
    let first = found c.loop-i.first in
    let rest = private_faults_from names declares (c.loop-i.i + 1) (parts_of (drop (c.loop-i.i + 1) parts)) in
    ap (λ f. first_with f rest) (
    c.in_ok-first.ensures
    ∙ ap (λ ns. first_with first (private_part_faults ns c.declares_at.result (part_of part))) c.seen_at-seen.ensures
    ∙ ap (λ b. first_with first (private_part_faults (names c.loop-i.i) b (part_of part))) (c.declares_at.ensures ∙ ap (λ kind. declares_at kind c.loop-i.i) c.kind-kind.ensures)
    )
    ∙ sym (next_private_part names declares first parts c.loop-i.i part c.loop-i-test.true c.index-parts-i.is)
    ∙ c.loop-i.invariant
