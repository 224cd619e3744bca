-- Temporaries that keep keys in code, as definitions see them.
use Rattle.std.specs.Prelude.{ℕ, List, [], ◌∷◌, map, Bool, true, not, ◌&&◌}
use Rattle.std.specs.Str.{chars}
use Rattle.es_base.specs.Conforms.{is_among}
use Rattle.es_steps.specs.Values.{String}
use Rattle.es_owed_initialized.specs.declared.keys.KeyTemporary.{KeyTemporary}

abbrev pub key_of : KeyTemporary → String × ℕ
key_of k = (chars k.name.now, k.class)

abbrev pub keys_of : List KeyTemporary → List (String × ℕ)
keys_of ks = map key_of ks

-- whether none of them is one of those that were met, or another of them
abbrev pub are_new : List String → List (String × ℕ) → Bool
are_new met [] = true
are_new met (k ∷ ks) = not (is_among k.0 met) && are_new (k.0 ∷ met) ks
