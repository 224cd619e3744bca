-- The bases of numbers.
use Rattle.std.specs.Prelude.{ℕ, List, [], ◌∷◌, Bool, false, ◌&&◌, nat_eq}
use Rattle.es_steps.specs.Printable.{is_based, is_binary, is_digit, is_hexadecimal, is_octal}
use Rattle.es_lexical.specs.declared.numbers.Base.{Base}

abbrev pub has_digit : Base → ℕ → Bool
has_digit Base.Decimal = is_digit
has_digit Base.Hexadecimal = is_hexadecimal
has_digit Base.Octal = is_octal
has_digit Base.Binary = is_binary

-- behind a `0`
abbrev pub is_based_text : List ℕ → Bool
is_based_text [] = false
is_based_text (d ∷ cs) = is_based d cs

abbrev pub has_base : List ℕ → Bool
has_base [] = false
has_base (c ∷ cs) = nat_eq c 48 && is_based_text cs
