use Rattle.std.proofs.Common.{◌≡◌, ◌++◌, drop}
use Rattle.es_binding_faults.specs.Seen.{seen}
use Rattle.es_lowered.specs.HelperCalls.{computed_keys}
use Rattle.es_owed_calls.proofs.computed_keys.computed_keys.Given as goal

abbrev pub invariant-loop-node : goal.invariant-loop-node
invariant-loop-node l = l.keys.items ++ computed_keys (seen (drop l.node-index l.nodes)) ≡ computed_keys (seen l.nodes)
