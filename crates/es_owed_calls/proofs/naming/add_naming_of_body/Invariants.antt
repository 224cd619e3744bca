use Rattle.std.proofs.Common.{◌≡◌, ◌++◌, drop}
use Rattle.es_base.specs.Tree.{trees}
use Rattle.es_lowered.specs.HelperCalls.{body_naming, method_keys}
use Rattle.es_owed_calls.specs.StaticKeys.{key_views}
use Rattle.es_owed_calls.proofs.naming.add_naming_of_body.Given as goal

abbrev pub invariant-loop-element : goal.invariant-loop-element
invariant-loop-element l =
    let found = body_naming l.terms.first l.terms.ledger.now in
    l.numbers.items ++ found (key_views l.keys.items) (trees (drop l.element-index l.elements)) ≡ l.fn.numbers.items ++ found (method_keys l.terms.first l.terms.ledger.now (trees l.elements)) (trees l.elements)
