use Rattle.std.proofs.Common.{◌≡◌, drop}
use Rattle.std.specs.Str.{chars}
use Rattle.es_steps.specs.Context.{generated_as}
use Rattle.es_generated.specs.Spellings.{entries_of}
use Rattle.es_generated.proofs.spellings.generated_among.Given as goal

abbrev pub invariant-loop-entry : goal.invariant-loop-entry
invariant-loop-entry l = generated_as (chars l.name) (entries_of (drop l.entry-index l.entries)) ≡ generated_as (chars l.name) (entries_of l.entries)
