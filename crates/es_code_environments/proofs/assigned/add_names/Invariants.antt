use Rattle.std.proofs.Common.{◌≡◌, ◌++◌, drop}
use Rattle.es_opening.specs.Assigned.{names_of}
use Rattle.es_code_environments.proofs.assigned.add_names.Given as goal

abbrev pub invariant-loop-name : goal.invariant-loop-name
invariant-loop-name l = l.names.items ++ names_of (drop l.name-index l.assigned) ≡ l.fn.names.items ++ names_of l.assigned
