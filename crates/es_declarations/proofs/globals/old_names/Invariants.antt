use Rattle.std.proofs.Common.{◌≡◌, ◌++◌, drop}
use Rattle.es_binding_faults.specs.Named.{named}
use Rattle.es_steps.specs.Meaning.{old_names}
use Rattle.es_declarations.specs.Globals.{names_in}
use Rattle.es_declarations.proofs.globals.old_names.Given as goal

abbrev pub invariant-loop-declaration : goal.invariant-loop-declaration
invariant-loop-declaration l = names_in l.names.items ++ old_names l.first (named (drop l.declaration-index l.declared)) ≡ old_names l.first (named l.declared)
