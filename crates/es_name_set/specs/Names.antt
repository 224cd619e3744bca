-- A set of strings, as a list: two lists that have the same strings are one set.
use Rattle.std.specs.Prelude.{◌≡◌, ℕ, List}
use Rattle.es_base.specs.Conforms.{is_among}

abbrev pub HaveSame : List (List ℕ) → List (List ℕ) → Type 0
HaveSame xs ys = (s : List ℕ) → is_among s xs ≡ is_among s ys
