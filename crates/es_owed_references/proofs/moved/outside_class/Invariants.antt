use Rattle.std.proofs.Common.{◌≡◌, ◌++◌, drop}
use Rattle.es_lowered.specs.ClassNames.{outside_class}
use Rattle.es_owed_references.specs.Moved.{functions_of}
use Rattle.es_owed_references.proofs.moved.outside_class.Given as goal

abbrev pub invariant-loop-function : goal.invariant-loop-function
invariant-loop-function l = functions_of l.outside.items ++ outside_class l.inside (functions_of (drop l.function-index l.functions)) ≡ outside_class l.inside (functions_of l.functions)
