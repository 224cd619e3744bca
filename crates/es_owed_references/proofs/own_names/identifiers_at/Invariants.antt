use Rattle.std.proofs.Common.{◌≡◌, ◌++◌, drop}
use Rattle.es_binding_faults.specs.Seen.{seen}
use Rattle.es_lowered.specs.OwnNames.{identifiers_at}
use Rattle.es_owed_references.proofs.own_names.identifiers_at.Given as goal

abbrev pub invariant-loop-node : goal.invariant-loop-node
invariant-loop-node l = l.numbers.items ++ identifiers_at l.class (seen (drop l.node-index l.nodes)) ≡ identifiers_at l.class (seen l.nodes)
