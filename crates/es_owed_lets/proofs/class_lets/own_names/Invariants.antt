use Rattle.std.proofs.Common.{◌≡◌, ◌++◌, drop}
use Rattle.es_binding_faults.specs.Seen.{seen}
use Rattle.es_owed_lets.specs.Lets.{own_names}
use Rattle.es_references.specs.Frames.{ids}
use Rattle.es_owed_lets.proofs.class_lets.own_names.Given as goal

abbrev pub invariant-loop-node : goal.invariant-loop-node
invariant-loop-node l = ids l.names.items ++ own_names (seen (drop l.node-index l.nodes)) ≡ own_names (seen l.nodes)
