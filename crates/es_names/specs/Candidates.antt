-- The candidates for a generated name, and the first that is free (oxc_traverse, `generate_uid`).
use Rattle.std.specs.Prelude.{ℕ, zero, suc, List, [], ◌∷◌, ◌++◌, cond, nat_eq, nat_le, codes, decimal, length}
use Rattle.std.specs.Char.{is_ascii_digit}
use Rattle.es_base.specs.Conforms.{is_among}

-- ---- the base of a string: without the underscores in front, and then without the decimal digits at the end

abbrev pub without_underscores : List ℕ → List ℕ
without_underscores [] = []
without_underscores (c ∷ cs) = cond (nat_eq c 95) (without_underscores cs) (c ∷ cs)

abbrev pub before_digits : ℕ → List ℕ → List ℕ
before_digits c [] = cond (is_ascii_digit c) [] (c ∷ [])
before_digits c (d ∷ ds) = c ∷ d ∷ ds

abbrev pub without_digits : List ℕ → List ℕ
without_digits [] = []
without_digits (c ∷ cs) = before_digits c (without_digits cs)

-- an empty rest becomes `temp`
abbrev pub or_temp : List ℕ → List ℕ
or_temp [] = codes "temp"
or_temp (c ∷ cs) = c ∷ cs

abbrev pub base_of : List ℕ → List ℕ
base_of name = or_temp (without_digits (without_underscores name))

-- ---- the candidates of base b, counted from 1: `_b`, `_b2`, `_b3`, ..

abbrev pub numeral : ℕ → List ℕ
numeral n = cond (nat_le n 1) [] (decimal n)

abbrev pub candidate : List ℕ → ℕ → List ℕ
candidate base n = 95 ∷ base ++ numeral n

-- the number of the first candidate from the n-th on that is not taken, where it is among the next `tries`
abbrev pub first_free_from : List (List ℕ) → List ℕ → ℕ → ℕ → ℕ
first_free_from taken base zero n = n
first_free_from taken base (suc tries) n = cond (is_among (candidate base n) taken) (first_free_from taken base tries (suc n)) n

-- Each candidate that is taken takes up one place of the list, so the tries suffice.
abbrev pub first_free_number : List (List ℕ) → List ℕ → ℕ
first_free_number taken base = first_free_from taken base (length taken) 1

abbrev pub first_free : List (List ℕ) → List ℕ → List ℕ
first_free taken base = candidate base (first_free_number taken base)
