use Rattle.std.proofs.Common.{◌≡◌, ◌++◌, drop}
use Rattle.es_by_number.specs.Numbered.{pairs}
use Rattle.es_owed_names.specs.Single.{subjects}
use Rattle.es_owed_names.proofs.single.with_numbers.Given as goal

abbrev pub invariant-loop-entry : goal.invariant-loop-entry
invariant-loop-entry l = pairs l.items.items ++ subjects (drop l.entry-index l.ledger) ≡ subjects l.ledger
