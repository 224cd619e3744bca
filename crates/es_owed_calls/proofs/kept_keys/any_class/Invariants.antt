use Rattle.std.proofs.Common.{◌≡◌, drop}
use Rattle.es_binding_faults.specs.Seen.{seen}
use Rattle.es_owed_calls.specs.KeptKeys.{any_class}
use Rattle.es_owed_calls.proofs.kept_keys.any_class.Given as goal

abbrev pub invariant-loop-node : goal.invariant-loop-node
invariant-loop-node l = any_class (seen (drop l.node-index l.nodes)) ≡ any_class (seen l.nodes)
