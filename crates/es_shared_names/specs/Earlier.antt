-- Names with earlier ones of their spelling, by what is known of those in front.
use Rattle.std.specs.Prelude.{ℕ, List, [], ◌∷◌, ◌++◌, cond, bytes_eq, Option, Some, None, option_map}
use Rattle.es_steps.specs.References.{declared}
use Rattle.es_steps.specs.Scopes.{Declaration}
use Rattle.es_steps.specs.Values.{String}

-- the number of the first of this spelling
abbrev pub declared_number : String → List Declaration → Option ℕ
declared_number s ds = option_map (λ d. d.number) (declared s ds)

-- a number that may be there, or else another
abbrev pub or_number : Option ℕ → Option ℕ → Option ℕ
or_number None o = o
or_number (Some n) o = Some n

abbrev pub with_number : ℕ → Option ℕ → List (ℕ × ℕ)
with_number n None = []
with_number n (Some k) = (n, k) ∷ []

-- each with the nearest one in front, where these are the nearest numbers of those in front of all
abbrev pub shared_after : (String → Option ℕ) → List Declaration → List (ℕ × ℕ)
shared_after nearest [] = []
shared_after nearest (d ∷ ds) = with_number d.number (nearest d.spelling) ++ shared_after (λ s. cond (bytes_eq s d.spelling) (Some d.number) (nearest s)) ds

-- each with the number of its spelling
abbrev pub shared_among : (String → Option ℕ) → List Declaration → List (ℕ × ℕ)
shared_among firsts [] = []
shared_among firsts (d ∷ ds) = with_number d.number (firsts d.spelling) ++ shared_among firsts ds
