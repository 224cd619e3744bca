use Rattle.std.proofs.Common.{◌≡◌, ◌∙◌, sym, ap, ℕ, List, [], ◌++◌, cond, arith}
use Rattle.std.proofs.lemmas.Bool.Decides.{nat_tests}
use Rattle.std.proofs.lemmas.List.{nil_from_length}
use Rattle.es_base.specs.Preorder.{nodes, nodes_of_part}
use Rattle.es_base.specs.Tree.{Parts, nullable}
use Rattle.es_base.specs.declared.kind.Kind.{Kind}
use Rattle.es_binding_faults.proofs.Appending.{appended_twice, OnOk-map}
use Rattle.es_binding_faults.specs.Named.{named, plain}
use Rattle.es_node.proofs.Below.{part_below, tree_below, hole_below}
use Rattle.es_node.specs.View.{kind_of, part_of, parts_in, parts_of}
use Rattle.es_steps.specs.References.{catches_a_name, inner_functions, meant, takes_vars}
use Rattle.es_steps.specs.Scopes.{is_body_part, names_at}
use Rattle.es_outside.proofs.Giving.{given_node, nothing_passed}
use Rattle.es_references.specs.Frames.{ids}
use Rattle.es_outside.specs.Given.{given_from, names_passed}
use Rattle.es_references.specs.References.{names_in, names_inside}
use Rattle.es_outside.proofs.given.+given.Goals as goal

pub add_given_in-add_given_of-requires : goal.add_given_in-add_given_of-requires
add_given_in-add_given_of-requires t c = (omega (arith, part_below c.args.around.parts.now c.loop-i.i c.index-parts-i.result c.loop-i-test.true, ap (λ p. nodes_of_part (part_of p)) c.index-parts-i.is, c.decreases), tt)

pub add_given_of_list-add_given-requires : goal.add_given_of_list-add_given-requires
add_given_of_list-add_given-requires t c = (omega (arith, tree_below c.args.nodes.now c.loop-node.node-index c.node-item.result c.loop-node-test.true, ap nodes c.node-item.is, c.decreases), tt)

pub add_given_of_list_with_holes-add_given_of_hole-requires : goal.add_given_of_list_with_holes-add_given_of_hole-requires
add_given_of_list_with_holes-add_given_of_hole-requires t c = (omega (arith, hole_below c.args.nodes.now c.loop-node.node-index c.node-item.result c.loop-node-test.true, ap (λ n. nodes_of_part (nullable n)) c.node-item.is, c.decreases), tt)

pub add_given-returns : goal.add_given-returns
add_given-returns t c =
    let names = names_in c.args.names.now in
    let uncaught = names_in c.args.uncaught.now in
    let b = c.args.is_body in
    let u = c.args.node.now in
    let before = ids c.args.bindings.now.items in
    let between = ids c.add_own.new.bindings.items in
    let own = meant uncaught (inner_functions b (kind_of u) (parts_in u)) in
    let below : Kind → Parts → List ℕ = λ k ps. given_from (names_inside names b k ps) (names_passed (cond (takes_vars k) names uncaught) b k ps) (is_body_part k) 0 ps in
    OnOk-map c.add_given_inside.result _ _ (λ e.
    appended_twice before between (ids c.add_given_inside.new.bindings.items) own (below (kind_of u) (parts_in u)) c.in_ok-add_own.ensures
    (e ∙ ap (λ (ns : List ℕ). between ++ ns) (ap (λ k. below k (parts_of c.parts.result.now)) c.kind.ensures ∙ ap (below (kind_of u)) (sym c.parts.ensures.list)))
    ∙ ap (λ (ns : List ℕ). before ++ ns) (sym (given_node names uncaught b u))) c.add_given_inside.ensures

pub add_given_of-returns-then-is_empty : goal.add_given_of-returns-then-is_empty
add_given_of-returns-then-is_empty t c =
    let k = c.args.around.kind in
    let ps = parts_of c.args.around.parts.now in
    let seen = names_at c.args.around.is_body k 0 ps c.args.i in
    let named_none : c.in_ok-frame.frame.names.items ≡ [] = nil_from_length c.in_ok-frame.frame.names.items (let t = sym c.if-is_empty.true ∙ c.is_empty.ensures in grind (arith, nat_tests, t)) in
    let none : plain seen ≡ [] = sym c.in_ok-frame.ensures ∙ ap named named_none in
    rw (none, nothing_passed (catches_a_name k ps) seen none, sym c.is_body_part-is_body.ensures) c.add_given_at.ensures
