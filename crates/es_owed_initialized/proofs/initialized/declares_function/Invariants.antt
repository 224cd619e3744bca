use Rattle.std.proofs.Common.{◌≡◌, drop}
use Rattle.es_binding_faults.specs.Seen.{seen}
use Rattle.es_lowered.specs.Lowered.{is_declared_function}
use Rattle.es_owed_initialized.proofs.initialized.declares_function.Given as goal

abbrev pub invariant-loop-node : goal.invariant-loop-node
invariant-loop-node l = is_declared_function l.number (seen (drop l.node-index l.nodes)) ≡ is_declared_function l.number (seen l.nodes)
