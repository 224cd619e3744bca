use Rattle.std.proofs.Common.{◌≡◌, drop}
use Rattle.es_binding_faults.specs.Seen.{seen}
use Rattle.es_lowered.specs.Temporaries.{holds_class}
use Rattle.es_owed_temporaries.proofs.apart.holds_class.Given as goal

abbrev pub invariant-loop-node : goal.invariant-loop-node
invariant-loop-node l = holds_class l.class (seen (drop l.node-index l.nodes)) ≡ holds_class l.class (seen l.nodes)
