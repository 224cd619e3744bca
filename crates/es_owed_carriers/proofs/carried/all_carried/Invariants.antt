use Rattle.std.proofs.Common.{◌≡◌, drop}
use Rattle.es_binding_faults.specs.Seen.{seen}
use Rattle.es_lowered.specs.Carriers.{all_carried}
use Rattle.es_owed_carriers.proofs.carried.all_carried.Given as goal

abbrev pub invariant-loop-node : goal.invariant-loop-node
invariant-loop-node l = all_carried l.first (seen l.source.nodes.items) (seen (drop l.node-index l.nodes)) ≡ all_carried l.first (seen l.source.nodes.items) (seen l.nodes)
