-- A name of the object of helpers, by what the name is.
use Rattle.std.specs.Prelude.{ℕ, Bool, false, ◌&&◌, codes, bytes_eq}
use Rattle.es_steps.specs.Context.{Context, NameKind, Changing, new_here}
use Rattle.es_steps.specs.Values.{String, Free}

-- the name s of node m
abbrev pub names_helpers : Context → ℕ → String → NameKind → Bool
names_helpers c m s (Changing (Free t)) = new_here c m && bytes_eq s (codes "babelHelpers")
names_helpers c m s kind = false
