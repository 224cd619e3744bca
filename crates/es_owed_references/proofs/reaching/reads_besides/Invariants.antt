use Rattle.std.proofs.Common.{◌≡◌, ◌++◌, drop}
use Rattle.es_binding_faults.specs.Seen.{seen}
use Rattle.es_owed_references.specs.Reaching.{reads_besides, reads_of}
use Rattle.es_owed_references.proofs.reaching.reads_besides.Given as goal

abbrev pub invariant-loop-node : goal.invariant-loop-node
invariant-loop-node l = reads_of l.reads.items ++ reads_besides l.written (seen (drop l.node-index l.nodes)) ≡ reads_besides l.written (seen l.nodes)
