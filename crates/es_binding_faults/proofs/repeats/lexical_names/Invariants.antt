use Rattle.std.proofs.Common.{◌≡◌, ◌++◌, drop}
use Rattle.std.specs.Prelude.{filter}
use Rattle.es_binding_faults.specs.Repeats.{is_lexical}
use Rattle.es_binding_faults.specs.Named.{named}
use Rattle.es_binding_faults.proofs.repeats.lexical_names.Given as goal

abbrev pub invariant-loop-declared : goal.invariant-loop-declared
invariant-loop-declared l = named l.kept.items ++ filter (is_lexical l.lexical) (named (drop l.declared-index l.names)) ≡ filter (is_lexical l.lexical) (named l.names)
