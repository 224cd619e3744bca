use Rattle.std.proofs.Common.{◌≡◌, ◌++◌, drop}
use Rattle.es_by_number.specs.Numbered.{pairs}
use Rattle.es_spelled.specs.Spelled.{numbered_references}
use Rattle.es_spelled.proofs.names.referring_with_numbers.Given as goal

abbrev pub invariant-loop-reference : goal.invariant-loop-reference
invariant-loop-reference l = pairs l.items.items ++ numbered_references l.spellings (drop l.reference-index l.references) ≡ numbered_references l.spellings l.references
