use Rattle.std.proofs.Common.{◌≡◌, length}
use Rattle.std.specs.Str.{chars, IsUtf8}
use Rattle.es_steps.specs.References.{has_number}
use Rattle.es_owed_texts.proofs.literals.has_backslash.Given as goal

abbrev pub invariant-loop-first : goal.invariant-loop-first
invariant-loop-first l = IsUtf8 l.rest × (has_number 92 (chars l.rest) ≡ has_number 92 (chars l.raw))

abbrev pub decreases-loop-first : goal.decreases-loop-first
decreases-loop-first l = length l.rest
