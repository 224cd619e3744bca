use Rattle.std.proofs.Common.{◌≡◌, ◌∙◌, sym, ◌+◌, drop, arith, ap, get_or, map}
use Rattle.es_base.specs.Preorder.{nodes, nodes_of, nodes_of_part}
use Rattle.es_base.specs.Tree.{nullable, trees, nullable_trees}
use Rattle.es_node.specs.View.{kind_of, parts_in, part_of, parts_of}
use Rattle.es_node.proofs.Below.{part_below, tree_below, hole_below}
use Rattle.es_validity.proofs.Walked.{node_found, next_part, next_item, next_hole}
use Rattle.es_validity.specs.Around.{behind, inside}
use Rattle.es_validity.specs.Faults.{first_with, fault_at, if_some, extra_constructors, faults_from, part_faults, item_faults}
use Rattle.es_validity.specs.Found.{found}
use Rattle.es_validity.specs.Known.{around_of}
use Rattle.es_validity.specs.Rules.{cause_at}
use Rattle.es_validity.specs.declared.fault.Cause.{Cause}
use Rattle.es_validity.specs.declared.fault.TreeRule.{TreeRule}
use Rattle.es_validity.proofs.walk.+faults.Goals as goal

pub list_faults-node_faults-first-requires : goal.list_faults-node_faults-first-requires
list_faults-node_faults-first-requires t c =
    let node = c.node-item.result in
    let same : nodes node ≡ nodes (get_or c.args.nodes.now c.loop-node.node-index node) = ap nodes c.node-item.is in
    let below = tree_below c.args.nodes.now c.loop-node.node-index node c.loop-node-test.true in
    (omega (arith, below, same, c.decreases), tt)

pub list_with_holes_faults-hole_faults-first-requires : goal.list_with_holes_faults-hole_faults-first-requires
list_with_holes_faults-hole_faults-first-requires t c =
    let node = c.node-item.result in
    let same : nodes_of_part (nullable node) ≡ nodes_of_part (nullable (get_or c.args.nodes.now c.loop-node.node-index node)) = ap (λ n. nodes_of_part (nullable n)) c.node-item.is in
    let below = hole_below c.args.nodes.now c.loop-node.node-index node c.loop-node-test.true in
    (omega (arith, below, same, c.decreases), tt)

pub list_faults-loop-node-preserved : goal.list_faults-loop-node-preserved
list_faults-loop-node-preserved t c =
    let a = around_of c.args.around.now in
    let rest = item_faults c.args.options.now a (trees (drop (c.loop-node.node-index + 1) c.args.nodes.now)) in
    ap (λ f. first_with f rest) c.node_faults-first.ensures
    ∙ sym (next_item c.args.options.now a (found c.loop-node.first) c.args.nodes.now c.loop-node.node-index c.node-item.result c.loop-node-test.true c.node-item.is)
    ∙ c.loop-node.invariant

pub list_with_holes_faults-loop-node-preserved : goal.list_with_holes_faults-loop-node-preserved
list_with_holes_faults-loop-node-preserved t c =
    let a = around_of c.args.around.now in
    let rest = item_faults c.args.options.now a (nullable_trees (drop (c.loop-node.node-index + 1) c.args.nodes.now)) in
    ap (λ f. first_with f rest) c.hole_faults-first.ensures
    ∙ sym (next_hole c.args.options.now a (found c.loop-node.first) c.args.nodes.now c.loop-node.node-index c.node-item.result c.loop-node-test.true c.node-item.is)
    ∙ c.loop-node.invariant

pub node_faults-returns : goal.node_faults-returns
node_faults-returns t c =
    let o = c.args.options.now in
    let a = around_of c.args.around.now in
    let u = c.args.node.now in
    let first = found c.args.first in
    let extra = map (fault_at (Cause.BadTree TreeRule.TwoConstructors)) (extra_constructors (kind_of u) (parts_in u)) in
    let below = faults_from o (inside (behind a (kind_of u) (parts_in u)) (kind_of u) (parts_in u)) 0 (parts_in u) in
    c.parts_faults.ensures
    ∙ ap (λ b. first_with (found c.extra_constructors-first.result) (faults_from o (inside b (kind_of u) (parts_in u)) 0 (parts_in u))) c.behind.ensures
    ∙ ap (λ f. first_with f below) (c.extra_constructors-first.ensures ∙ ap (λ f. first_with f extra) (c.if_some-first.ensures ∙ ap (λ x. first_with first (if_some x c.node_id.result.0)) c.cause_at.ensures ∙ ap (λ m. first_with first (if_some (cause_at o a (kind_of u) (parts_in u)) m)) c.node_id.ensures))
    ∙ sym (node_found o a first u)

pub parts_faults-part_faults-first-requires : goal.parts_faults-part_faults-first-requires
parts_faults-part_faults-first-requires t c =
    let parts = c.parts-parts.result.now in
    let part = c.index-parts-i.result in
    let same : nodes_of_part (part_of part) ≡ nodes_of_part (part_of (get_or parts c.loop-i.i part)) = ap (λ p. nodes_of_part (part_of p)) c.index-parts-i.is in
    let below = part_below parts c.loop-i.i part c.loop-i-test.true in
    let all : nodes_of (parts_in c.args.node.now) ≡ nodes_of (parts_of parts) = ap nodes_of c.parts-parts.ensures.list in
    (omega (arith, below, same, all, c.decreases), tt)

pub parts_faults-loop-i-preserved : goal.parts_faults-loop-i-preserved
parts_faults-loop-i-preserved t c =
    let o = c.args.options.now in
    let u = c.args.node.now in
    let around = inside (around_of c.args.around.now) (kind_of u) (parts_in u) in
    let parts = c.parts-parts.result.now in
    let part = c.index-parts-i.result in
    let rest = faults_from o around (c.loop-i.i + 1) (parts_of (drop (c.loop-i.i + 1) parts)) in
    ap (λ f. first_with f rest) (c.part_faults-first.ensures ∙ ap (λ b. first_with (found c.loop-i.first) (part_faults o b (part_of part))) c.inside.ensures)
    ∙ sym (next_part o around (found c.loop-i.first) parts c.loop-i.i part c.loop-i-test.true c.index-parts-i.is)
    ∙ c.loop-i.invariant
