use Rattle.std.proofs.Common.{◌≡◌, drop}
use Rattle.es_binding_faults.specs.Seen.{seen}
use Rattle.es_steps.specs.KeptNodes.{list_of}
use Rattle.es_owed.proofs.lists.list_of.Given as goal

abbrev pub invariant-loop-node : goal.invariant-loop-node
invariant-loop-node l = list_of l.number (seen (drop l.node-index l.nodes)) ≡ list_of l.number (seen l.nodes)
