use Rattle.std.proofs.Common.{◌≡◌, ◌++◌, drop}
use Rattle.es_opening.specs.Assigned.{names_of}
use Rattle.es_opening.proofs.assigned.add_parameters.Given as goal

abbrev pub invariant-loop-parameter : goal.invariant-loop-parameter
invariant-loop-parameter l = names_of l.names.items ++ drop l.parameter-index l.parameters ≡ names_of l.fn.names.items ++ l.parameters
