use Rattle.std.proofs.Common.{◌≡◌, ◌++◌, drop}
use Rattle.es_binding_faults.specs.Seen.{seen}
use Rattle.es_lowered.specs.ClassNames.{numbers_of}
use Rattle.es_references.specs.Frames.{ids}
use Rattle.es_owed_lets.proofs.numbers.ids_of.Given as goal

abbrev pub invariant-loop-node : goal.invariant-loop-node
invariant-loop-node l = ids l.numbers.items ++ numbers_of (seen (drop l.node-index l.nodes)) ≡ numbers_of (seen l.nodes)
