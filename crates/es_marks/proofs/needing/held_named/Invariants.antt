use Rattle.std.proofs.Common.{◌≡◌, drop}
use Rattle.std.specs.Str.{chars}
use Rattle.es_marks.specs.Needing.{held_named, needing_names}
use Rattle.es_marks.proofs.needing.held_named.Given as goal

abbrev pub invariant-loop-other : goal.invariant-loop-other
invariant-loop-other l = held_named (chars l.name) (needing_names (drop l.other-index l.names)) ≡ held_named (chars l.name) (needing_names l.names)
