use Rattle.std.proofs.Common.{◌≡◌, drop}
use Rattle.es_binding_faults.specs.Seen.{seen}
use Rattle.es_lowered.specs.HeadValues.{head_values_stay}
use Rattle.es_references.specs.References.{references_of}
use Rattle.es_owed_lets.proofs.head_values.head_values_stay.Given as goal

abbrev pub invariant-loop-node : goal.invariant-loop-node
invariant-loop-node l = head_values_stay l.ledger (references_of l.references) (seen (drop l.node-index l.nodes)) ≡ head_values_stay l.ledger (references_of l.references) (seen l.nodes)
