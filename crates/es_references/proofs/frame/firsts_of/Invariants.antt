use Rattle.std.proofs.Common.{◌≡◌, ℕ, List, drop}
use Rattle.es_binding_faults.specs.Leasts.{number_of}
use Rattle.es_binding_faults.specs.Named.{named}
use Rattle.es_references.specs.Frames.{first_number, or_else}
use Rattle.es_references.proofs.frame.firsts_of.Given as goal

abbrev pub invariant-loop-declared : goal.invariant-loop-declared
invariant-loop-declared l = (s : List ℕ) → or_else (number_of s l.firsts) (first_number s (named (drop l.declared-index l.names))) ≡ first_number s (named l.names)
