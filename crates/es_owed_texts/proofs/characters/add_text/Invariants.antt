use Rattle.std.proofs.Common.{◌≡◌, ◌||◌, ℕ, length}
use Rattle.std.specs.Str.{chars, IsUtf8}
use Rattle.es_steps.specs.References.{has_number}
use Rattle.es_owed_texts.proofs.characters.add_text.Given as goal

abbrev pub invariant-loop-first : goal.invariant-loop-first
invariant-loop-first l = IsUtf8 l.rest × ((c : ℕ) → (has_number c l.characters || has_number c (chars l.rest)) ≡ (has_number c l.fn.characters || has_number c (chars l.text)))

abbrev pub decreases-loop-first : goal.decreases-loop-first
decreases-loop-first l = length l.rest
