use Rattle.std.proofs.Common.{◌≡◌, ◌++◌, drop}
use Rattle.es_by_number.specs.Numbered as by_number
use Rattle.es_generated.specs.Spellings.{entry_of, numbered_names}
use Rattle.es_generated.proofs.spellings.with_numbers.Given as goal

abbrev pub invariant-loop-entry : goal.invariant-loop-entry
invariant-loop-entry l = by_number.numbered entry_of l.items.items ++ numbered_names l.spellings (drop l.entry-index l.entries) ≡ numbered_names l.spellings l.entries
