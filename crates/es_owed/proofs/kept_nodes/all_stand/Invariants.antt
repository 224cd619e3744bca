use Rattle.std.proofs.Common.{◌≡◌, drop}
use Rattle.es_binding_faults.specs.Seen.{seen}
use Rattle.es_steps.specs.KeptNodes.{all_stand}
use Rattle.es_owed.proofs.kept_nodes.all_stand.Given as goal

abbrev pub invariant-loop-node : goal.invariant-loop-node
invariant-loop-node l = all_stand (seen (drop l.node-index l.source)) (seen l.lowered.nodes.items) ≡ all_stand (seen l.source) (seen l.lowered.nodes.items)
