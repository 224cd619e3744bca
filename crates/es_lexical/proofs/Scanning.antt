-- Strings, one character after another.
use lib.Utf8.{encode}
use Rattle.std.proofs.Common.{◌≡◌, refl, ap, ◌∙◌, ℕ, ◌+◌, List, [], ◌∷◌, ◌++◌, drop, length, Bool, true, false, cond, ◌&&◌, ◌||◌, arith}
use Rattle.std.proofs.lemmas.Str.{chars-nil, drop_past_char}
use Rattle.std.specs.Char.{len_utf8}
use Rattle.std.specs.Str.{chars}
use Rattle.std.specs.Prelude.{nat_eq, not}
use Rattle.es_steps.specs.Printable.{is_decimal, is_number, is_pattern_from, is_raw}
use Rattle.es_lexical.specs.Bases.{has_base}

pub behind_first : (bs rest : List ℕ) (c : ℕ) → bs ≡ encode c ++ rest → drop (len_utf8 c) bs ≡ rest
behind_first bs rest c e = ap (λ n. drop n bs) (from_zero (len_utf8 c)) ∙ drop_past_char bs rest 0 c e
  where
    from_zero : (n : ℕ) → n ≡ 0 + n
    from_zero n = omega arith

pub no_characters : (bs : List ℕ) → length bs ≡ 0 → chars bs ≡ []
no_characters [] e = chars-nil
no_characters (b ∷ bs) e = absurd (omega (arith, e))

pub pattern_more : (in_class escaped : Bool) (c : ℕ) (cs : List ℕ) → is_pattern_from in_class escaped (c ∷ cs)
    ≡ ((escaped || (in_class || not (nat_eq c 47))) && is_pattern_from (cond escaped in_class (cond in_class (not (nat_eq c 93)) (nat_eq c 91))) (not escaped && nat_eq c 92) cs)
pattern_more in_class true c cs = refl
pattern_more true false c cs = refl
pattern_more false false c cs = refl

pub raw_more : (escaped dollar : Bool) (c : ℕ) (cs : List ℕ) → is_raw escaped dollar (c ∷ cs)
    ≡ (not (nat_eq c 13 || (not escaped && (nat_eq c 96 || (dollar && nat_eq c 123)))) && is_raw (not escaped && nat_eq c 92) (not escaped && nat_eq c 36) cs)
raw_more true dollar c cs = rw (or_false (nat_eq c 13)) refl
  where
    or_false : (a : Bool) → (a || false) ≡ a
    or_false true = refl
    or_false false = refl
raw_more false dollar c cs = refl

pub by_base : (cs : List ℕ) → is_number cs ≡ (has_base cs || is_decimal cs)
by_base [] = refl
by_base (c ∷ []) = and_nothing (nat_eq c 48) (is_decimal (c ∷ []))
  where
    and_nothing : (a b : Bool) → b ≡ ((a && false) || b)
    and_nothing true b = refl
    and_nothing false b = refl
by_base (c ∷ d ∷ cs) = refl
