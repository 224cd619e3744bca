use Rattle.std.proofs.Common.{◌≡◌, ◌||◌, ℕ, drop}
use Rattle.es_binding_faults.specs.Seen.{seen}
use Rattle.es_steps.specs.References.{has_number}
use Rattle.es_lowered.specs.Texts.{is_character_among}
use Rattle.es_owed_texts.proofs.characters.Characters.of.Given as goal

abbrev pub invariant-loop-node : goal.invariant-loop-node
invariant-loop-node l = (c : ℕ) → (has_number c l.characters || is_character_among c (seen (drop l.node-index l.nodes))) ≡ is_character_among c (seen l.nodes)
