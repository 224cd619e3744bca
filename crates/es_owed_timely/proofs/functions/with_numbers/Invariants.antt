use Rattle.std.proofs.Common.{◌≡◌, ◌++◌, drop}
use Rattle.es_by_number.specs.Numbered.{pairs}
use Rattle.es_owed_timely.specs.Functions.{super_functions_of}
use Rattle.es_owed_timely.proofs.functions.with_numbers.Given as goal

abbrev pub invariant-loop-function : goal.invariant-loop-function
invariant-loop-function l = pairs l.items.items ++ super_functions_of (drop l.function-index l.functions) ≡ super_functions_of l.functions
