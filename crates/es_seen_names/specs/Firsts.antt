-- The first declaration of each name.
use Rattle.std.specs.Prelude.{List, [], ◌∷◌, ℕ, Option, Some, None, cond, bytes_eq}
use Rattle.std.specs.Str.{chars}
use Rattle.es_seen_names.specs.declared.declaration.Declaration.{Declaration}

-- declarations by their names, each name once
abbrev pub Named : Type 0
Named = List (List ℕ × Declaration)

abbrev pub first_of : List ℕ → Named → Option Declaration
first_of s [] = None
first_of s (e ∷ es) = cond (bytes_eq s e.0) (Some e.1) (first_of s es)

-- the first of these declarations that declares the name
abbrev pub first_declaring : List ℕ → List Declaration → Option Declaration
first_declaring s [] = None
first_declaring s (d ∷ ds) = cond (bytes_eq s (chars d.name.now)) (Some d) (first_declaring s ds)

abbrev pub if_declares : List ℕ → Declaration → Option Declaration
if_declares s d = cond (bytes_eq s (chars d.name.now)) (Some d) None

abbrev pub or_later : Option Declaration → Option Declaration → Option Declaration
or_later None o = o
or_later (Some d) o = Some d
