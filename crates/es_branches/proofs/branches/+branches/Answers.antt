use Rattle.std.proofs.Common.{ap, arith, sym, ◌∙◌, ◌++◌, false}
use Rattle.es_base.specs.Preorder.{nodes, nodes_of_part}
use Rattle.es_base.specs.Tree.{nullable}
use Rattle.es_binding_faults.proofs.Appending.{OnOk-map, appended_twice}
use Rattle.es_by_number.specs.Numbered.{pairs}
use Rattle.es_node.proofs.Below.{part_below, tree_below, hole_below}
use Rattle.es_node.specs.View.{kind_of, part_of, parts_in, parts_of}
use Rattle.es_references.specs.References.{names_in}
use Rattle.es_steps.specs.Branches.{around_branches_here}
use Rattle.es_branches.proofs.Branching.{branches_node}
use Rattle.es_branches.specs.Branching.{branches_from, names_within}
use Rattle.es_branches.proofs.branches.+branches.Goals as goal

pub add_branches_within-add_branches_of_part-requires : goal.add_branches_within-add_branches_of_part-requires
add_branches_within-add_branches_of_part-requires t c = (omega (arith, part_below c.args.around.parts.now c.loop-i.i c.index-parts-i.result c.loop-i-test.true, ap (λ p. nodes_of_part (part_of p)) c.index-parts-i.is, c.decreases), tt)

pub add_branches_of_list-add_branches-requires : goal.add_branches_of_list-add_branches-requires
add_branches_of_list-add_branches-requires t c = (omega (arith, tree_below c.args.nodes.now c.loop-node.node-index c.node-item.result c.loop-node-test.true, ap nodes c.node-item.is, c.decreases), tt)

pub add_branches_of_list_with_holes-add_branches_of_hole-requires : goal.add_branches_of_list_with_holes-add_branches_of_hole-requires
add_branches_of_list_with_holes-add_branches_of_hole-requires t c = (omega (arith, hole_below c.args.nodes.now c.loop-node.node-index c.node-item.result c.loop-node-test.true, ap (λ n. nodes_of_part (nullable n)) c.node-item.is, c.decreases), tt)

pub add_branches-returns : goal.add_branches-returns
add_branches-returns t c =
    let names = names_in c.args.scope.now in
    let n = c.args.node.now in
    OnOk-map c.add_branches_within.result _ _ (λ e.
    appended_twice (pairs c.args.found.now.items) (pairs c.add_branches_here.new.found.items) (pairs c.add_branches_within.new.found.items) (around_branches_here names (kind_of n) (parts_in n)) (branches_from (names_within names false (kind_of n) (parts_in n)) 0 (parts_in n)) c.in_ok-add_branches_here.ensures
    (e
    ∙ ap (λ k. pairs c.add_branches_here.new.found.items ++ branches_from (names_within names false k (parts_of c.parts.result.now)) 0 (parts_of c.parts.result.now)) c.kind.ensures
    ∙ ap (λ ps. pairs c.add_branches_here.new.found.items ++ branches_from (names_within names false (kind_of n) ps) 0 ps) (sym c.parts.ensures.list))
    ∙ ap (λ xs. pairs c.args.found.now.items ++ xs) (sym (branches_node names n))) c.add_branches_within.ensures
