use Rattle.std.proofs.Common.{◌≡◌, ◌++◌, drop}
use Rattle.es_binding_faults.specs.Named.{named}
use Rattle.es_seen_names.specs.Declarations.{all_named_as, class_name_of, declarations}
use Rattle.es_seen_names.proofs.declaration.add_as.Given as goal

abbrev pub invariant-loop-declared : goal.invariant-loop-declared
invariant-loop-declared l = declarations l.names.items ++ all_named_as (class_name_of l.class_name) (named (drop l.declared-index l.plain)) ≡ declarations l.fn.names.items ++ all_named_as (class_name_of l.class_name) (named l.plain)
