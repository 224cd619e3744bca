-- Names with numbers.
use Rattle.std.specs.Prelude.{List, [], ◌∷◌, ℕ, Option, Some, None, cond, min, bytes_eq}

abbrev pub Numbers : Type 0
Numbers = List (List ℕ × ℕ)

abbrev pub number_of : List ℕ → Numbers → Option ℕ
number_of s [] = None
number_of s (e ∷ es) = cond (bytes_eq s e.0) (Some e.1) (number_of s es)

-- of a number that may be there and another, the lesser one
abbrev pub lesser : Option ℕ → ℕ → ℕ
lesser None n = n
lesser (Some m) n = min m n
