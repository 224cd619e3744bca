use Rattle.std.proofs.Common.{◌≡◌, drop}
use Rattle.es_binding_faults.specs.Seen.{seen}
use Rattle.es_owed_lets.specs.Lets.{all_fit}
use Rattle.es_owed_lets.proofs.class_lets.all_fit.Given as goal

abbrev pub invariant-loop-node : goal.invariant-loop-node
invariant-loop-node l = all_fit l.first (seen l.source.nodes.now) (seen (drop l.node-index l.nodes)) ≡ all_fit l.first (seen l.source.nodes.now) (seen l.nodes)
