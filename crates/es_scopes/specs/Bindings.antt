-- The names that a scope holds, in order, each with its symbol.
use Rattle.std.specs.Prelude.{ℕ, List, [], ◌∷◌, Option, Some, None, if◌then◌else◌, bytes_eq, map}
use Rattle.std.specs.Str.{chars}
use Rattle.std.specs.String.{string_bytes}
use Rattle.std.specs.declared.string.String.{String}
use Rattle.es_base.specs.declared.ids.SymbolId.{SymbolId}

-- names, by their characters
abbrev pub Names : Type 0
Names = List (List ℕ × SymbolId)

-- the symbol of this name
abbrev pub lookup : List ℕ → Names → Option SymbolId
lookup name [] = None
lookup name (e ∷ es) = if bytes_eq name e.0 then Some e.1 else lookup name es

-- the names, with another in the place of this one
abbrev pub renamed : List ℕ → List ℕ → Names → Names
renamed old new names = map (λ e. (if bytes_eq old e.0 then new else e.0, e.1)) names

-- the names that these strings spell
abbrev pub names_of : {A : Type 0} → List (String A × SymbolId) → Names
names_of entries = map (λ e. (chars (string_bytes e.0), e.1)) entries
