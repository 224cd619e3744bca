use Rattle.std.proofs.Common.{◌≡◌, drop}
use Rattle.es_binding_faults.specs.Evals.{declares_eval}
use Rattle.es_binding_faults.specs.Named.{named}
use Rattle.es_binding_faults.proofs.evals.declares_eval.Given as goal

abbrev pub invariant-loop-declared : goal.invariant-loop-declared
invariant-loop-declared l = declares_eval (named (drop l.declared-index l.names)) ≡ declares_eval (named l.names)
