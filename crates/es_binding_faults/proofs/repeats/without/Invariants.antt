use Rattle.std.proofs.Common.{◌≡◌, ◌++◌, drop}
use Rattle.std.specs.Prelude.{filter}
use Rattle.es_validity.specs.Facts.{not_among}
use Rattle.es_binding_faults.specs.Named.{named}
use Rattle.es_binding_faults.proofs.repeats.without.Given as goal

abbrev pub invariant-loop-declared : goal.invariant-loop-declared
invariant-loop-declared l = named l.kept.items ++ filter (not_among l.branches) (named (drop l.declared-index l.names)) ≡ filter (not_among l.branches) (named l.names)
