use Rattle.std.proofs.Common.{◌≡◌, ◌++◌, drop}
use Rattle.es_steps.specs.Meaning.{old_bindings}
use Rattle.es_declarations.specs.Kinds.{bindings_in}
use Rattle.es_declarations.proofs.bindings.old_bindings.Given as goal

abbrev pub invariant-loop-item : goal.invariant-loop-item
invariant-loop-item l = bindings_in l.bindings.items ++ old_bindings l.first (bindings_in (drop l.item-index l.found)) ≡ old_bindings l.first (bindings_in l.found)
