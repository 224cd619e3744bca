use Rattle.std.proofs.Common.{◌≡◌, ◌||◌, drop, ℕ, List}
use Rattle.es_base.specs.Conforms.{is_among}
use Rattle.es_lowered.specs.Definitions.{any_reads}
use Rattle.es_references.specs.References.{references_of}
use Rattle.es_owed_definitions.proofs.supers.names_read.Given as goal

abbrev pub invariant-loop-reference : goal.invariant-loop-reference
invariant-loop-reference l = (s : List ℕ) → (is_among s l.names || any_reads s (references_of (drop l.reference-index l.references))) ≡ any_reads s (references_of l.references)
