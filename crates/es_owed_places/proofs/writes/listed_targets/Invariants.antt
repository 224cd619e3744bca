use Rattle.std.proofs.Common.{◌≡◌, ◌++◌, drop}
use Rattle.es_binding_faults.specs.Seen.{seen}
use Rattle.es_lowered.specs.KeptReferences.{plain_targets}
use Rattle.es_references.specs.Frames.{ids}
use Rattle.es_owed_places.proofs.writes.listed_targets.Given as goal

abbrev pub invariant-loop-node : goal.invariant-loop-node
invariant-loop-node l = ids l.targets.items ++ plain_targets (seen (drop l.node-index l.nodes)) ≡ plain_targets (seen l.nodes)
