use Rattle.std.proofs.Common.{◌≡◌, ◌++◌, drop}
use Rattle.es_binding_faults.specs.Named.{named}
use Rattle.es_steps.specs.References.{numbers_of}
use Rattle.es_references.specs.Frames.{ids}
use Rattle.es_outside.proofs.changing.add_numbers.Given as goal

abbrev pub invariant-loop-declared : goal.invariant-loop-declared
invariant-loop-declared l = ids l.bindings.items ++ numbers_of (named (drop l.declared-index l.names)) ≡ ids l.fn.bindings.items ++ numbers_of (named l.names)
