use Rattle.std.proofs.Common.{◌≡◌, drop}
use Rattle.es_binding_faults.specs.Seen.{seen}
use Rattle.es_lowered.specs.OwnNames.{any_stands}
use Rattle.es_owed_references.proofs.reads.any_stands.Given as goal

abbrev pub invariant-loop-node : goal.invariant-loop-node
invariant-loop-node l = any_stands l.numbers (seen (drop l.node-index l.nodes)) ≡ any_stands l.numbers (seen l.nodes)
