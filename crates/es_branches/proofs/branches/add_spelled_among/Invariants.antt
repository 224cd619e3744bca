use Rattle.std.proofs.Common.{◌≡◌, ◌++◌, drop}
use Rattle.std.specs.Str.{chars}
use Rattle.es_binding_faults.specs.Named.{named}
use Rattle.es_by_number.specs.Numbered.{pairs}
use Rattle.es_branches.specs.Branching.{spelled_among}
use Rattle.es_branches.proofs.branches.add_spelled_among.Given as goal

abbrev pub invariant-loop-declared : goal.invariant-loop-declared
invariant-loop-declared l = pairs l.found.items ++ spelled_among l.number (chars l.name) (named (drop l.declared-index l.names)) ≡ pairs l.fn.found.items ++ spelled_among l.number (chars l.name) (named l.names)
