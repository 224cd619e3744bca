use Rattle.std.proofs.Common.{◌≡◌, ◌++◌, drop}
use Rattle.es_binding_faults.specs.Seen.{seen}
use Rattle.es_lowered.specs.Lowered.{private_numbers}
use Rattle.es_owed_initialized.proofs.inner.private_numbers.Given as goal

abbrev pub invariant-loop-node : goal.invariant-loop-node
invariant-loop-node l = l.numbers.items ++ private_numbers (seen (drop l.node-index l.nodes)) ≡ private_numbers (seen l.nodes)
