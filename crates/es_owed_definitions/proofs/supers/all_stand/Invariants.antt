use Rattle.std.proofs.Common.{◌≡◌, drop}
use Rattle.es_binding_faults.specs.Seen.{seen}
use Rattle.es_lowered.specs.Definitions.{supers_stand}
use Rattle.es_references.specs.References.{references_of}
use Rattle.es_owed_definitions.proofs.supers.all_stand.Given as goal

abbrev pub invariant-loop-node : goal.invariant-loop-node
invariant-loop-node l =
    let stand = supers_stand l.terms.first l.terms.options.now l.terms.ledger.now (references_of l.read.references.now) in
    stand (seen (drop l.node-index l.nodes)) ≡ stand (seen l.nodes)
