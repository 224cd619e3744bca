use Rattle.std.proofs.Common.{◌≡◌, ◌++◌, drop}
use Rattle.es_lowered.specs.ClassNames.{names_holding}
use Rattle.es_owed_references.specs.Moved.{functions_of, names_of}
use Rattle.es_owed_references.proofs.moved.names_holding.Given as goal

abbrev pub invariant-loop-function : goal.invariant-loop-function
invariant-loop-function l = names_of l.names.items ++ names_holding l.held (functions_of (drop l.function-index l.functions)) ≡ names_holding l.held (functions_of l.functions)
