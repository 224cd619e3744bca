use Rattle.std.proofs.Common.{◌≡◌, drop}
use Rattle.es_binding_faults.specs.Seen.{seen}
use Rattle.es_lowered.specs.ClassNames.{naming}
use Rattle.es_references.specs.References.{references_of}
use Rattle.es_steps.specs.References.{has_number}
use Rattle.es_owed_calls.proofs.kept_keys.is_naming.Given as goal

abbrev pub invariant-loop-node : goal.invariant-loop-node
invariant-loop-node l =
    let names = naming l.class l.program.ledger.now (references_of l.program.references.now.list.items) l.program.identifiers.now in
    has_number l.number (names (seen (drop l.node-index l.nodes))) ≡ has_number l.number (names (seen l.nodes))
