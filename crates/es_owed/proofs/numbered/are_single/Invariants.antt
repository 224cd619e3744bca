use Rattle.std.proofs.Common.{◌≡◌, drop}
use Rattle.es_binding_faults.specs.Seen.{seen}
use Rattle.es_owed.specs.Numbers.{are_single}
use Rattle.es_owed.proofs.numbered.are_single.Given as goal

abbrev pub invariant-loop-node : goal.invariant-loop-node
invariant-loop-node l = are_single (seen (drop l.node-index l.nodes)) (seen l.program.nodes.items) ≡ are_single (seen l.nodes) (seen l.program.nodes.items)
