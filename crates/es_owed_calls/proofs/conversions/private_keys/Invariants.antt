use Rattle.std.proofs.Common.{◌≡◌, ◌++◌, drop}
use Rattle.es_binding_faults.specs.Seen.{seen}
use Rattle.es_lowered.specs.HelperCalls.{private_keys}
use Rattle.es_owed_calls.specs.Strings.{strings}
use Rattle.es_owed_calls.proofs.conversions.private_keys.Given as goal

abbrev pub invariant-loop-node : goal.invariant-loop-node
invariant-loop-node l =
    let found = private_keys l.terms.first l.terms.ledger.now in
    strings l.names.items ++ found (seen (drop l.node-index l.nodes)) ≡ found (seen l.nodes)
