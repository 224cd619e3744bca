use Rattle.std.proofs.Common.{sym, ap, ◌∙◌, ◌&&◌}
use Rattle.std.specs.Prelude.{is_some}
use Rattle.es_lowered.specs.HelperCalls.{tests_of}
use Rattle.es_owed_calls.proofs.TestNodes.{both_tested}
use Rattle.es_owed_calls.proofs.name_tests.+is_test.Goals as goal

pub returns-then-is_test : goal.returns-then-is_test
returns-then-is_test t c =
    let first = c.args.terms.now.first in
    let ledger = c.args.terms.now.ledger.now in
    let logical = c.from_node-logical.result in
    let left = is_some (tests_of first ledger logical.left.now) in
    let right = is_some (tests_of first ledger logical.right.now) in
    both_tested first ledger c.args.node.now _ _ _ logical.left.now logical.right.now c.is_test-then-is_test.result c.from_node-logical.ensures
    (c.is_test-then-is_test.ensures
    ∙ sym (ap (λ b. b && right) (sym c.is_test.ensures ∙ c.if-is_test.true))
    ∙ sym (ap (λ b. b && (left && right)) (sym c.is_and.ensures ∙ c.if-is_and.true)))

pub returns-else-is_test : goal.returns-else-is_test
returns-else-is_test t c =
    let first = c.args.terms.now.first in
    let ledger = c.args.terms.now.ledger.now in
    let logical = c.from_node-logical.result in
    let left = is_some (tests_of first ledger logical.left.now) in
    let right = is_some (tests_of first ledger logical.right.now) in
    both_tested first ledger c.args.node.now _ _ _ logical.left.now logical.right.now c.is_test.result c.from_node-logical.ensures
    (c.if-is_test.false
    ∙ sym (ap (λ b. b && right) (sym c.is_test.ensures ∙ c.if-is_test.false))
    ∙ sym (ap (λ b. b && (left && right)) (sym c.is_and.ensures ∙ c.if-is_and.true)))
