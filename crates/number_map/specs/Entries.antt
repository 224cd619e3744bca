-- The numbers of a map with their values.
use Rattle.std.specs.Prelude.{ℕ, ◌-◌, List, [], ◌∷◌, ◌++◌, ◌&&◌, cond, filter, is_none, length, nat_eq, nat_le, nat_lt, suc, Option, None, Some}
use Rattle.std.specs.Map.{lookup}

-- the place of a number in a list of so many, the first of which is that of this number
abbrev pub place_of : ℕ → ℕ → ℕ → Option ℕ
place_of n first count = cond (nat_le first n && nat_lt (n - first) count) (Some (n - first)) None

module _ {V : Type 0} where
  -- the values in a list whose first place is that of this number
  abbrev pub entries_from : ℕ → List (Option V) → List (ℕ × V)
  entries_from n [] = []
  entries_from n (None ∷ xs) = entries_from (suc n) xs
  entries_from n (Some v ∷ xs) = (n, v) ∷ entries_from (suc n) xs

  -- these, and those of the numbers that have no place in the list
  abbrev pub entries_of : ℕ → List (Option V) → List (ℕ × V) → List (ℕ × V)
  entries_of first near far = entries_from first near ++ filter (λ e. is_none (place_of e.0 first (length near))) far

  -- the value of a number
  abbrev pub value_at : ℕ → List (ℕ × V) → Option V
  value_at n m = lookup (nat_eq n) m
