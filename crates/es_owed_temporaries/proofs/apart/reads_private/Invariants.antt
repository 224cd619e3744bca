use Rattle.std.proofs.Common.{◌≡◌, drop}
use Rattle.std.specs.Str.{chars}
use Rattle.es_binding_faults.specs.Seen.{seen}
use Rattle.es_lowered.specs.Temporaries.{reads_private}
use Rattle.es_owed_temporaries.proofs.apart.reads_private.Given as goal

abbrev pub invariant-loop-node : goal.invariant-loop-node
invariant-loop-node l = reads_private (chars l.name) (seen (drop l.node-index l.nodes)) ≡ reads_private (chars l.name) (seen l.nodes)
