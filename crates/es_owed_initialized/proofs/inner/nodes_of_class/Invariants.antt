use Rattle.std.proofs.Common.{◌≡◌, ◌++◌, drop}
use Rattle.es_binding_faults.specs.Seen.{seen}
use Rattle.es_lowered.specs.Temporaries.{nodes_of_class}
use Rattle.es_owed_initialized.proofs.inner.nodes_of_class.Given as goal

abbrev pub invariant-loop-node : goal.invariant-loop-node
invariant-loop-node l = seen l.inner.items ++ nodes_of_class l.class (seen (drop l.node-index l.nodes)) ≡ nodes_of_class l.class (seen l.nodes)
