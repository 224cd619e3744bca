use Rattle.std.proofs.Common.{◌≡◌, drop}
use Rattle.es_binding_faults.specs.Seen.{seen}
use Rattle.es_lowered.specs.Lowered.{all_accounted}
use Rattle.es_owed_names.proofs.accounted.all_accounted.Given as goal

abbrev pub invariant-loop-node : goal.invariant-loop-node
invariant-loop-node l = all_accounted l.first l.ledger l.own (seen (drop l.node-index l.nodes)) ≡ all_accounted l.first l.ledger l.own (seen l.nodes)
