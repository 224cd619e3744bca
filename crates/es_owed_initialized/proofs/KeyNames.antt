-- Temporaries that keep keys, one by one.
use Rattle.std.proofs.Common.{◌≡◌, refl, sym, ap, ap₂, ◌∙◌, ℕ, ◌+◌, ◌<◌, List, [], ◌∷◌, length, drop, get_or, Bool, true, false, ◌&&◌, ◌||◌, bytes_eq}
use Rattle.std.proofs.lemmas.List.{at_drop_more}
use Rattle.std.specs.Prelude.{not}
use Rattle.std.specs.Str.{chars}
use Rattle.es_base.specs.Conforms.{is_among}
use Rattle.es_lowered.specs.Definitions.{all_different, is_among_first}
use Rattle.es_name_set.specs.Names.{HaveSame}
use Rattle.es_owed_initialized.specs.Keys.{are_new, keys_of}
use Rattle.es_owed_initialized.specs.declared.keys.KeyTemporary.{KeyTemporary}
use Rattle.es_steps.specs.Values.{String}

-- two lists with the same names
new_to_same : (met others : List String) (ks : List (String × ℕ)) → HaveSame met others → are_new met ks ≡ are_new others ks
new_to_same met others [] same = refl
new_to_same met others (k ∷ ks) same = ap₂ (λ a b. not a && b) (same k.0) (new_to_same (k.0 ∷ met) (k.0 ∷ others) ks (λ s. ap (λ b. bytes_eq k.0 s || b) (same s)))

-- what a list of temporaries has past its end
abbrev pub any_key : KeyTemporary
any_key = record { name = record { ref_ptr = (0, 0); now = [] }; class = 0 }

-- one more that was not met
pub new_more : (met later : List String) (ks : List KeyTemporary) (i : ℕ) (d : KeyTemporary) (all : Bool) → i < length ks → is_among (chars (get_or ks i d).name.now) met ≡ false → HaveSame later (chars (get_or ks i d).name.now ∷ met) → are_new met (keys_of (drop i ks)) ≡ all → are_new later (keys_of (drop (i + 1) ks)) ≡ all
new_more met later ks i d all below other same h =
    let name : String = chars (get_or ks i d).name.now in
    let rest = keys_of (drop (i + 1) ks) in
    new_to_same later (name ∷ met) rest same
    ∙ ap (λ b. not b && are_new (name ∷ met) rest) (sym other)
    ∙ sym (at_drop_more (λ (xs : List KeyTemporary). are_new met (keys_of xs)) ks i d below)
    ∙ h

-- ---- none of them was met

abbrev none_met : List String → List (String × ℕ) → Bool
none_met met [] = true
none_met met (k ∷ ks) = not (is_among k.0 met) && none_met met ks

apart : (a b c d : Bool) → (not (a || b) && (not c && d)) ≡ (not (a || c) && (not b && d))
apart true b c d = refl
apart false true true d = refl
apart false true false d = refl
apart false false c d = refl

none_met_with : (s : String) (met : List String) (ks : List (String × ℕ)) → none_met (s ∷ met) ks ≡ (not (is_among_first s ks) && none_met met ks)
none_met_with s met [] = refl
none_met_with s met (k ∷ ks) =
    ap (λ b. not (bytes_eq s k.0 || is_among k.0 met) && b) (none_met_with s met ks)
    ∙ apart (bytes_eq s k.0) (is_among k.0 met) (is_among_first s ks) (none_met met ks)

turned : (a b c d : Bool) → (not a && ((not b && c) && d)) ≡ ((not a && c) && (not b && d))
turned true b c d = refl
turned false true true d = refl
turned false true false d = refl
turned false false c d = refl

new_to : (met : List String) (ks : List (String × ℕ)) → are_new met ks ≡ (none_met met ks && all_different ks)
new_to met [] = refl
new_to met (k ∷ ks) =
    ap (λ b. not (is_among k.0 met) && b) (new_to (k.0 ∷ met) ks ∙ ap (λ b. b && all_different ks) (none_met_with k.0 met ks))
    ∙ turned (is_among k.0 met) (is_among_first k.0 ks) (none_met met ks) (all_different ks)

met_none : (ks : List (String × ℕ)) → none_met [] ks ≡ true
met_none [] = refl
met_none (k ∷ ks) = met_none ks

pub new_from_none : (ks : List (String × ℕ)) → are_new [] ks ≡ all_different ks
new_from_none ks = new_to [] ks ∙ ap (λ b. b && all_different ks) (met_none ks)
