use Rattle.std.proofs.Common.{◌≡◌, ◌++◌, drop}
use Rattle.es_steps.specs.References.{numbers_of}
use Rattle.es_binding_faults.specs.Named.{named}
use Rattle.es_binding_faults.specs.Repeats.{numbers}
use Rattle.es_binding_faults.proofs.facts.nodes_of.Given as goal

abbrev pub invariant-loop-declared : goal.invariant-loop-declared
invariant-loop-declared l = numbers l.nodes.items ++ numbers_of (named (drop l.declared-index l.names)) ≡ numbers_of (named l.names)
