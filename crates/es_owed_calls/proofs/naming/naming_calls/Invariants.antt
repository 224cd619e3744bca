use Rattle.std.proofs.Common.{◌≡◌, ◌++◌, drop}
use Rattle.es_binding_faults.specs.Seen.{seen}
use Rattle.es_lowered.specs.HelperCalls.{naming_calls}
use Rattle.es_owed_calls.proofs.naming.naming_calls.Given as goal

abbrev pub invariant-loop-node : goal.invariant-loop-node
invariant-loop-node l =
    let found = naming_calls l.terms.first l.terms.ledger.now in
    l.numbers.items ++ found (seen (drop l.node-index l.nodes)) ≡ found (seen l.nodes)
