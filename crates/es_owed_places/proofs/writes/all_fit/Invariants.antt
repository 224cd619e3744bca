use Rattle.std.proofs.Common.{◌≡◌, drop}
use Rattle.es_lowered.specs.KeptReferences.{writes_fit}
use Rattle.es_references.specs.References.{references_of}
use Rattle.es_owed_places.proofs.writes.all_fit.Given as goal

abbrev pub invariant-loop-reference : goal.invariant-loop-reference
invariant-loop-reference l = writes_fit l.first l.ledger l.targets l.writing (references_of (drop l.reference-index l.references)) ≡ writes_fit l.first l.ledger l.targets l.writing (references_of l.references)
