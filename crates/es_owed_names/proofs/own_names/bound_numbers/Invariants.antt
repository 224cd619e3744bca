use Rattle.std.proofs.Common.{◌≡◌, ◌++◌, drop}
use Rattle.es_owed_names.specs.OwnNames.{bound_numbers}
use Rattle.es_owed_names.proofs.own_names.bound_numbers.Given as goal

abbrev pub invariant-loop-reference : goal.invariant-loop-reference
invariant-loop-reference l = l.numbers.items ++ bound_numbers (drop l.reference-index l.references) ≡ bound_numbers l.references
