use Rattle.std.proofs.Common.{◌≡◌, drop}
use Rattle.es_binding_faults.specs.Seen.{seen}
use Rattle.es_lowered.specs.ClassNames.{numbers_of}
use Rattle.es_steps.specs.KeptNodes.{are_new_or_among}
use Rattle.es_owed_lets.proofs.numbers.are_new_or_among.Given as goal

abbrev pub invariant-loop-node : goal.invariant-loop-node
invariant-loop-node l = are_new_or_among l.first l.there (numbers_of (seen (drop l.node-index l.nodes))) ≡ are_new_or_among l.first l.there (numbers_of (seen l.nodes))
