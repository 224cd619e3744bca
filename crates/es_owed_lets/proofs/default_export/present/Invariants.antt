use Rattle.std.proofs.Common.{◌≡◌, ◌++◌, drop}
use Rattle.es_binding_faults.specs.Seen.{seen}
use Rattle.es_owed_lets.specs.Exported.{present}
use Rattle.es_owed_lets.proofs.default_export.present.Given as goal

abbrev pub invariant-loop-node : goal.invariant-loop-node
invariant-loop-node l = seen l.all.items ++ present (drop l.node-index l.nodes) ≡ present l.nodes
