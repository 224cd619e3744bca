use Rattle.std.proofs.Common.{◌≡◌, ◌++◌, drop}
use Rattle.es_binding_faults.specs.Seen.{seen}
use Rattle.es_lowered.specs.HelperCalls.{new_private_names}
use Rattle.es_owed_calls.specs.Strings.{strings}
use Rattle.es_owed_calls.proofs.conversions.new_private_names.Given as goal

abbrev pub invariant-loop-node : goal.invariant-loop-node
invariant-loop-node l =
    let found = new_private_names l.terms.first l.terms.ledger.now in
    strings l.names.items ++ found (seen (drop l.node-index l.nodes)) ≡ found (seen l.nodes)
