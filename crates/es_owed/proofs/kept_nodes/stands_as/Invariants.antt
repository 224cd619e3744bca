use Rattle.std.proofs.Common.{◌≡◌, drop}
use Rattle.es_binding_faults.specs.Seen.{seen}
use Rattle.es_steps.specs.KeptNodes.{stands_as}
use Rattle.es_owed.specs.KeptNodes.{sort_in}
use Rattle.es_owed.proofs.kept_nodes.stands_as.Given as goal

abbrev pub invariant-loop-node : goal.invariant-loop-node
invariant-loop-node l = stands_as l.number (sort_in l.sort) (seen (drop l.node-index l.nodes)) ≡ stands_as l.number (sort_in l.sort) (seen l.nodes)
