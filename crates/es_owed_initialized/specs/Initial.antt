-- Initializations in code, as definitions see them.
use Rattle.std.specs.Prelude.{ℕ, List, [], ◌∷◌, Bool, map, Option, Some, None}
use Rattle.es_owed_initialized.specs.declared.initializing.Initialization.{Initialization}

abbrev pub pair_of : Initialization → ℕ × Bool
pair_of i = (i.number, i.is_right)

abbrev pub pairs_of : List Initialization → List (ℕ × Bool)
pairs_of is = map pair_of is

abbrev pub pairs_in : Option Initialization → List (ℕ × Bool)
pairs_in None = []
pairs_in (Some i) = pair_of i ∷ []
