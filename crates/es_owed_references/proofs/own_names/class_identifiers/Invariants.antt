use Rattle.std.proofs.Common.{◌≡◌, ◌++◌, drop}
use Rattle.es_binding_faults.specs.Seen.{seen}
use Rattle.es_lowered.specs.OwnNames.{class_identifiers}
use Rattle.es_references.specs.Frames.{ids}
use Rattle.es_owed_references.proofs.own_names.class_identifiers.Given as goal

abbrev pub invariant-loop-node : goal.invariant-loop-node
invariant-loop-node l = ids l.identifiers.items ++ class_identifiers (seen (drop l.node-index l.nodes)) ≡ class_identifiers (seen l.nodes)
