use Rattle.std.proofs.Common.{◌≡◌, ◌++◌, drop}
use Rattle.std.specs.Prelude.{filter}
use Rattle.es_steps.specs.References.{numbers_of}
use Rattle.es_validity.specs.Facts.{is_repeat, repeats}
use Rattle.es_binding_faults.specs.Named.{named}
use Rattle.es_binding_faults.specs.Repeats.{numbers}
use Rattle.es_binding_faults.proofs.repeats.add_repeats.Given as goal

abbrev pub invariant-loop-declared : goal.invariant-loop-declared
invariant-loop-declared l = numbers l.found.items ++ numbers_of (filter (is_repeat l.lexical (named l.names)) (named (drop l.declared-index l.names))) ≡ numbers l.fn.found.items ++ repeats l.lexical (named l.names)
