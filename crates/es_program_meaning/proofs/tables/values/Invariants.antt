use Rattle.std.proofs.Common.{◌≡◌, ◌++◌, drop}
use Rattle.es_by_number.specs.Numbered.{pairs}
use Rattle.es_steps.specs.Meaning.{second_numbers}
use Rattle.es_program_meaning.proofs.tables.values.Given as goal

abbrev pub invariant-loop-item : goal.invariant-loop-item
invariant-loop-item l = l.values.items ++ second_numbers (pairs (drop l.item-index l.list)) ≡ second_numbers (pairs l.list)
