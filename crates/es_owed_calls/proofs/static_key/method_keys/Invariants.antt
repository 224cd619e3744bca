use Rattle.std.proofs.Common.{◌≡◌, ◌++◌, drop}
use Rattle.es_base.specs.Tree.{trees}
use Rattle.es_lowered.specs.HelperCalls.{method_keys}
use Rattle.es_owed_calls.specs.StaticKeys.{key_views}
use Rattle.es_owed_calls.proofs.static_key.method_keys.Given as goal

abbrev pub invariant-loop-element : goal.invariant-loop-element
invariant-loop-element l =
    let found = method_keys l.terms.first l.terms.ledger.now in
    key_views l.keys.items ++ found (trees (drop l.element-index l.elements)) ≡ found (trees l.elements)
