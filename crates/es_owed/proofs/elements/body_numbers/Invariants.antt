use Rattle.std.proofs.Common.{◌≡◌, drop}
use Rattle.es_binding_faults.specs.Seen.{seen}
use Rattle.es_lowered.specs.Definitions.{body_numbers}
use Rattle.es_owed.proofs.elements.body_numbers.Given as goal

abbrev pub invariant-loop-node : goal.invariant-loop-node
invariant-loop-node l = body_numbers l.class (seen (drop l.node-index l.nodes)) ≡ body_numbers l.class (seen l.nodes)
