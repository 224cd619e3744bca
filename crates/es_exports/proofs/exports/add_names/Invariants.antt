use Rattle.std.proofs.Common.{◌≡◌, ◌++◌, drop}
use Rattle.es_binding_faults.specs.Named.{named}
use Rattle.es_code_reading.specs.Contexts.{context_of}
use Rattle.es_steps.specs.Modules.{declared_exports}
use Rattle.es_exports.specs.Exports.{exports_of}
use Rattle.es_exports.proofs.exports.add_names.Given as goal

abbrev pub invariant-loop-declared : goal.invariant-loop-declared
invariant-loop-declared l = exports_of l.exports.items ++ declared_exports (context_of l.c) (named (drop l.declared-index l.names)) ≡ exports_of l.fn.exports.items ++ declared_exports (context_of l.c) (named l.names)
