-- The private members of a class by their names.
use Rattle.std.specs.Prelude.{List, [], ◌∷◌, Bool, false, ◌||◌, ◌&&◌, bytes_eq, map}
use Rattle.es_steps.specs.PrivateNames.{PrivateMember, is_written}
use Rattle.es_steps.specs.Values.{String}

-- whether one of these members has the name
abbrev pub declares : String → List PrivateMember → Bool
declares s [] = false
declares s (x ∷ xs) = bytes_eq s x.spelling || declares s xs

-- .. and can be written
abbrev pub declares_written : String → List PrivateMember → Bool
declares_written s [] = false
declares_written s (x ∷ xs) = (is_written x.kind && bytes_eq s x.spelling) || declares_written s xs

-- their names, and whether they can be written
abbrev pub spelled : List PrivateMember → List (String × Bool)
spelled xs = map (λ x. (x.spelling, is_written x.kind)) xs
