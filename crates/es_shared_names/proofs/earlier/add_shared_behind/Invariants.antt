use Rattle.std.proofs.Common.{◌≡◌, ◌++◌, [], drop}
use Rattle.es_binding_faults.specs.Leasts.{number_of}
use Rattle.es_binding_faults.specs.Named.{named}
use Rattle.es_by_number.specs.Numbered.{pairs}
use Rattle.es_shared_names.specs.Earlier.{shared_after}
use Rattle.es_shared_names.proofs.earlier.add_shared_behind.Given as goal

abbrev pub invariant-loop-name : goal.invariant-loop-name
invariant-loop-name l = pairs l.found.items ++ shared_after (λ s. number_of s l.numbers) (named (drop l.name-index l.names)) ≡ pairs l.fn.found.items ++ shared_after (λ s. number_of s []) (named l.names)
