use Rattle.std.proofs.Common.{List, ◌+◌, drop, subst}
use Rattle.es_base.specs.Tree.{child, trees}
use Rattle.es_steps.specs.PrivateNames.{PrivateMember, element_members, elements_members}
use Rattle.es_validity.proofs.Members.{Met, met_next, next_members}
use Rattle.es_validity.specs.Found.{found}
use Rattle.es_validity.specs.Reached.{before}
use Rattle.es_validity.proofs.privates.elements_privates.Goals as goal

pub loop-element-preserved : goal.loop-element-preserved
loop-element-preserved c =
    let element = c.element-item.result in
    let elements = c.args.elements.now in
    let met = c.loop-element.invariant in
    let here = element_members 0 (child element) in
    let rest = elements_members 0 (trees (drop (c.loop-element.element-index + 1) elements)) in
    let all = elements_members 0 (trees elements) in
    let first = found c.loop-element.first in
    let adds = c.in_ok-first.ensures met.0 met.1.holds in
    (before met.0 here, met_next c.loop-element.declared c.add_element.new.declared first (found c.in_ok-first.first) (found c.args.first) here rest all met.0 (subst (λ (xs : List PrivateMember). Met c.loop-element.declared first (found c.args.first) xs all met.0) (next_members elements c.loop-element.element-index element c.loop-element-test.true c.element-item.is) met.1) adds.holds adds.faults)
