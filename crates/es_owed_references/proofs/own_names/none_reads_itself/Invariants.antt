use Rattle.std.proofs.Common.{◌≡◌, drop}
use Rattle.es_binding_faults.specs.Seen.{seen}
use Rattle.es_lowered.specs.ClassNames.{moved_functions}
use Rattle.es_lowered.specs.OwnNames.{none_reads_itself}
use Rattle.es_references.specs.References.{references_of}
use Rattle.es_owed_references.proofs.own_names.none_reads_itself.Given as goal

abbrev pub invariant-loop-node : goal.invariant-loop-node
invariant-loop-node l =
    let functions = moved_functions l.reads.ledger.now (seen l.reads.nodes.now) in
    none_reads_itself l.reads.ledger.now functions (seen l.declared.nodes.now) (seen l.reads.nodes.now) (references_of l.reads.references.now) (seen (drop l.node-index l.nodes)) ≡ none_reads_itself l.reads.ledger.now functions (seen l.declared.nodes.now) (seen l.reads.nodes.now) (references_of l.reads.references.now) (seen l.nodes)
