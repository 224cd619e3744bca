use Rattle.std.proofs.Common.{◌≡◌, drop}
use Rattle.std.specs.Str.{chars}
use Rattle.es_base.specs.Conforms.{is_among}
use Rattle.es_owed_timely.specs.Needed.{names_of}
use Rattle.es_owed_timely.proofs.functions.is_one_of.Given as goal

abbrev pub invariant-loop-entry : goal.invariant-loop-entry
invariant-loop-entry l = is_among (chars l.name) (names_of (drop l.entry-index l.entries)) ≡ is_among (chars l.name) (names_of l.entries)
