use Rattle.std.proofs.Common.{◌≡◌, ◌++◌, drop}
use Rattle.es_lowered.specs.KeptReferences.{writing_numbers}
use Rattle.es_references.specs.Frames.{ids}
use Rattle.es_references.specs.References.{references_of}
use Rattle.es_owed_places.proofs.writes.writing_numbers.Given as goal

abbrev pub invariant-loop-reference : goal.invariant-loop-reference
invariant-loop-reference l = ids l.numbers.items ++ writing_numbers (references_of (drop l.reference-index l.references)) ≡ writing_numbers (references_of l.references)
