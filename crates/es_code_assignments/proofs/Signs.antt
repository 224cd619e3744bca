-- An operator without its last character, by its bytes.
use Rattle.std.proofs.Common.{◌≡◌, refl, sym, ap, ◌∙◌, ℕ, List, [], ◌∷◌, ◌++◌, append-nil, length, Option, Some, None, encode_utf8, arith}
use Rattle.std.specs.Str.{chars, IsUtf8, encode_utf8_all}
use Rattle.std.specs.Str.Iter.{chars_rest, chars_steps_back}
use Rattle.std.specs.declared.str.Chars.{Chars}
use Rattle.std.proofs.lemmas.Str.{chars_from_encodes, chars-nil, encodes-append, encodes-chars}
use Rattle.es_steps.specs.Expressions.{without_sign}

without-last : (cs : List ℕ) (c : ℕ) → without_sign (cs ++ c ∷ []) ≡ cs
without-last [] c = refl
without-last (d ∷ []) c = refl
without-last (d ∷ e ∷ cs) c = ap (λ (ds : List ℕ). d ∷ ds) (without-last (e ∷ cs) c)

one_left_out : (whole rest_bytes : List ℕ) (c : ℕ) → IsUtf8 whole → IsUtf8 rest_bytes → whole ≡ rest_bytes ++ encode_utf8 c → chars rest_bytes ≡ without_sign (chars whole)
one_left_out whole rest_bytes c u v is =
    let last : encode_utf8_all (c ∷ []) ≡ encode_utf8 c = append-nil (encode_utf8 c) in
    let spelt : encode_utf8_all (chars rest_bytes ++ c ∷ []) ≡ whole =
    encodes-append (chars rest_bytes) (c ∷ [])
    ∙ ap (λ (bs : List ℕ). bs ++ encode_utf8_all (c ∷ [])) (encodes-chars rest_bytes v)
    ∙ ap (λ (bs : List ℕ). rest_bytes ++ bs) last
    ∙ sym is in
    sym (without-last (chars rest_bytes) c) ∙ ap without_sign (chars_from_encodes (chars rest_bytes ++ c ∷ []) whole u spelt)

nothing_left_out : (whole : List ℕ) → length whole ≡ 0 → chars whole ≡ without_sign (chars whole)
nothing_left_out [] h = chars-nil ∙ sym (ap without_sign chars-nil)
nothing_left_out (b ∷ bs) h = absurd (omega (arith, h))

pub last_left_out : (s t : Chars) (r : Option ℕ) (whole rest_bytes : List ℕ) → chars_steps_back s r t → chars_rest s ≡ whole → rest_bytes ≡ chars_rest t → IsUtf8 whole → IsUtf8 rest_bytes → chars rest_bytes ≡ without_sign (chars whole)
last_left_out s t (Some c) whole rest_bytes step from to u v = one_left_out whole rest_bytes c u v (sym from ∙ step ∙ ap (λ (bs : List ℕ). bs ++ encode_utf8 c) (sym to))
last_left_out s t None whole rest_bytes step from to u v =
    let same : rest_bytes ≡ whole = to ∙ ap chars_rest step.1 ∙ from in
    ap chars same ∙ nothing_left_out whole (ap (λ (bs : List ℕ). length bs) (sym from) ∙ step.0)
