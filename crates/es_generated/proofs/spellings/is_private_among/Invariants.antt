use Rattle.std.proofs.Common.{◌≡◌, drop}
use Rattle.std.specs.Str.{chars}
use Rattle.es_steps.specs.Context.{is_generated_private}
use Rattle.es_generated.specs.Spellings.{entries_of}
use Rattle.es_generated.proofs.spellings.is_private_among.Given as goal

abbrev pub invariant-loop-entry : goal.invariant-loop-entry
invariant-loop-entry l = is_generated_private (chars l.name) l.class (entries_of (drop l.entry-index l.entries)) ≡ is_generated_private (chars l.name) l.class (entries_of l.entries)
