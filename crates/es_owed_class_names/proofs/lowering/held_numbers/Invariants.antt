use Rattle.std.proofs.Common.{◌≡◌, ◌++◌, drop}
use Rattle.es_owed_references.specs.Moved.{functions_of}
use Rattle.es_owed_class_names.specs.HeldNumbers.{held_numbers}
use Rattle.es_owed_class_names.proofs.lowering.held_numbers.Given as goal

abbrev pub invariant-loop-function : goal.invariant-loop-function
invariant-loop-function l = l.numbers.items ++ held_numbers (functions_of (drop l.function-index l.functions)) ≡ held_numbers (functions_of l.functions)
