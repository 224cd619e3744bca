-- Names that are made one after another.
use Rattle.std.specs.Prelude.{ℕ, zero, suc, [], ◌∷◌, ◌++◌}
use Rattle.es_names.specs.Candidates.{first_free}
use Rattle.es_names.specs.Taken.{Strings}

-- the next n keys, where these are taken
abbrev pub given : ℕ → Strings → Strings
given zero taken = []
given (suc n) taken = let key = first_free taken [] in key ∷ given n (taken ++ key ∷ [])
