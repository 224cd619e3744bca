-- Strings in code, as definitions see them.
use Rattle.std.specs.Prelude.{ℕ, List, [], ◌∷◌, map, Option, Some, None}
use Rattle.std.specs.Str.{chars}
use Rattle.std.proofs.Common.{Bor}
use Rattle.es_steps.specs.Values.{String}

abbrev pub strings : List (Bor (List ℕ)) → List String
strings ss = map (λ s. chars s.now) ss

abbrev pub if_string : Option (Bor (List ℕ)) → List String
if_string None = []
if_string (Some s) = chars s.now ∷ []
