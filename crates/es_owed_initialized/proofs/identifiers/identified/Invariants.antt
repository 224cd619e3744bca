use Rattle.std.proofs.Common.{◌≡◌, ◌++◌, drop}
use Rattle.es_binding_faults.specs.Seen.{seen}
use Rattle.es_by_number.specs.Numbered.{pairs}
use Rattle.es_owed_initialized.specs.Identifiers.{identified}
use Rattle.es_owed_initialized.proofs.identifiers.identified.Given as goal

abbrev pub invariant-loop-node : goal.invariant-loop-node
invariant-loop-node l = pairs l.identifiers.items ++ identified l.first (seen (drop l.node-index l.nodes)) ≡ identified l.first (seen l.nodes)
