use Rattle.std.proofs.Common.{◌≡◌, ℕ, List, None, drop}
use Rattle.es_binding_faults.specs.Leasts.{number_of}
use Rattle.es_binding_faults.specs.Named.{named}
use Rattle.es_binding_faults.specs.Repeats.{least_from}
use Rattle.es_binding_faults.proofs.repeats.leasts.Given as goal

abbrev pub invariant-loop-declared : goal.invariant-loop-declared
invariant-loop-declared l = (s : List ℕ) → least_from s (number_of s l.leasts) (named (drop l.declared-index l.names)) ≡ least_from s None (named l.names)
