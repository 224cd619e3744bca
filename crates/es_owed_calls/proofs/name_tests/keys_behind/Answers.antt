use Rattle.std.proofs.Common.{◌≡◌, ap, sym, ◌∙◌, ◌++◌}
use Rattle.es_binding_faults.proofs.Appending.{IfOk-map}
use Rattle.es_owed_calls.specs.StaticKeys.{key_views}
use Rattle.es_owed_calls.specs.Strings.{strings}
use Rattle.es_owed_calls.specs.Tests.{behind, tested_in}
use Rattle.es_owed_calls.proofs.TestNodes.{behind_test}
use Rattle.es_owed_calls.proofs.name_tests.keys_behind.Goals as goal

pub returns : goal.returns
returns c =
    let first = c.args.terms.now.first in
    let ledger = c.args.terms.now.ledger.now in
    let test = c.args.test.now in
    let keys = key_views c.args.keys.now in
    let tested : strings c.as_slice.result.now ≡ tested_in ledger test = ap strings c.as_slice.ensures.value ∙ c.in_ok-add_tested.ensures ∙ ap (λ ss. strings ss ++ tested_in ledger test) c.new-tested.ensures.items in
    IfOk-map c.keys_not_among.result _ _ (λ r of_keys. of_keys ∙ ap (λ ss. behind ss keys) tested ∙ sym (behind_test first ledger test keys (sym c.is_test.ensures ∙ c.if-not-is_test.false))) c.keys_not_among.ensures
