use Rattle.std.proofs.Common.{◌≡◌, ◌++◌, drop}
use Rattle.es_binding_faults.specs.Seen.{seen}
use Rattle.es_owed_lets.specs.Lets.{declarations}
use Rattle.es_owed_lets.proofs.class_lets.declarations.Given as goal

abbrev pub invariant-loop-node : goal.invariant-loop-node
invariant-loop-node l = seen l.declarations.items ++ declarations (seen (drop l.node-index l.nodes)) ≡ declarations (seen l.nodes)
