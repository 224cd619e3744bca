use Rattle.std.proofs.Common.{◌≡◌, ◌++◌, drop}
use Rattle.es_owed_references.specs.Reaching.{written_numbers}
use Rattle.es_references.specs.References.{references_of}
use Rattle.es_owed_references.proofs.reaching.written_numbers.Given as goal

abbrev pub invariant-loop-reference : goal.invariant-loop-reference
invariant-loop-reference l = l.numbers.items ++ written_numbers (references_of (drop l.reference-index l.references)) ≡ written_numbers (references_of l.references)
