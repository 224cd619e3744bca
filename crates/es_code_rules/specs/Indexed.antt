-- The numbers by which definitions are looked up.
use Rattle.std.specs.Prelude.{ℕ, List, map}
use Rattle.es_binding_faults.specs.Leasts.{Numbers}
use Rattle.es_generated.specs.Spellings.{spelling_number}
use Rattle.es_steps.specs.Code.{Opened, InitializersOf, BodyOf, CalledBodyOf}
use Rattle.es_steps.specs.Opening as of
use Rattle.es_code_rules.specs.Elsewhere.{opened_by}

-- the number of a class, and this one of the spelling of a name
abbrev pub opened_number : Numbers → Opened → ℕ
opened_number ns (InitializersOf n) = n
opened_number ns (BodyOf s) = spelling_number ns s
opened_number ns (CalledBodyOf s) = spelling_number ns s

abbrev pub numbered_definitions : Numbers → List of.Definition → List (ℕ × of.Definition)
numbered_definitions ns ds = map (λ d. (opened_number ns (opened_by d), d)) ds
