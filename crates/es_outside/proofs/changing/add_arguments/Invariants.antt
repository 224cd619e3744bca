use Rattle.std.proofs.Common.{◌≡◌, ◌++◌, drop}
use Rattle.es_binding_faults.specs.Named.{named}
use Rattle.es_steps.specs.References.{named_arguments}
use Rattle.es_references.specs.Frames.{ids}
use Rattle.es_outside.proofs.changing.add_arguments.Given as goal

abbrev pub invariant-loop-declared : goal.invariant-loop-declared
invariant-loop-declared l = ids l.bindings.items ++ named_arguments (named (drop l.declared-index l.names)) ≡ ids l.fn.bindings.items ++ named_arguments (named l.names)
