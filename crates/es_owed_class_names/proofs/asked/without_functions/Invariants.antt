use Rattle.std.proofs.Common.{◌≡◌, drop}
use Rattle.es_lowered.specs.ClassNames.{without_functions}
use Rattle.es_owed_references.specs.Moved.{functions_of}
use Rattle.es_owed_class_names.proofs.asked.without_functions.Given as goal

abbrev pub invariant-loop-function : goal.invariant-loop-function
invariant-loop-function l = without_functions (functions_of (drop l.function-index l.functions)) l.rest.items ≡ without_functions (functions_of l.functions) l.fn.numbers.items
