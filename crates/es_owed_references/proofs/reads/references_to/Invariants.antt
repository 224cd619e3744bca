use Rattle.std.proofs.Common.{◌≡◌, ◌++◌, drop}
use Rattle.es_lowered.specs.OwnNames.{references_to}
use Rattle.es_references.specs.References.{references_of}
use Rattle.es_owed_references.proofs.reads.references_to.Given as goal

abbrev pub invariant-loop-reference : goal.invariant-loop-reference
invariant-loop-reference l = l.numbers.items ++ references_to l.identifiers (references_of (drop l.reference-index l.references)) ≡ references_to l.identifiers (references_of l.references)
