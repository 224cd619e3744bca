use Rattle.std.proofs.Common.{◌≡◌, ◌++◌, drop}
use Rattle.es_code_environments.proofs.names.copy_names.Given as goal

abbrev pub invariant-loop-i : goal.invariant-loop-i
invariant-loop-i l = l.names.items ++ drop l.i l.from ≡ l.fn.names.items ++ drop l.first l.from
