use Rattle.std.proofs.Common.{◌≡◌, length}
use Rattle.std.specs.Str.{chars, IsUtf8}
use Rattle.es_binding_faults.specs.Seen.{seen}
use Rattle.es_lowered.specs.Texts.{are_characters}
use Rattle.es_owed_texts.proofs.texts.are_characters.Given as goal

abbrev pub invariant-loop-first : goal.invariant-loop-first
invariant-loop-first l = IsUtf8 l.rest × (are_characters (seen l.source.listed.now.nodes.items) (chars l.rest) ≡ are_characters (seen l.source.listed.now.nodes.items) (chars l.name))

abbrev pub decreases-loop-first : goal.decreases-loop-first
decreases-loop-first l = length l.rest
