-- Names that classes need where these stand, with the numbers of their spellings.
use Rattle.std.specs.Prelude.{ℕ, List, [], ◌∷◌, ◌++◌, map, cond, ◌&&◌, bytes_eq}
use Rattle.std.specs.Str.{chars}
use Rattle.es_binding_faults.specs.Leasts.{Numbers}
use Rattle.es_lowered.specs.Timely.{Mark, is_needed, is_of_no_node}
use Rattle.es_generated.specs.Spellings.{spelling_number}
use Rattle.es_steps.specs.Values.{String}
use Rattle.es_marks.specs.Around.{held_parts}
use Rattle.es_marks.specs.declared.needing.NeedingName.{NeedingName}

-- a name with what holds the class
abbrev pub needing_name : NeedingName → String × List (ℕ × ℕ)
needing_name x = (chars x.name.now, held_parts x.held.now)

abbrev pub needing_names : List NeedingName → List (String × List (ℕ × ℕ))
needing_names xs = map needing_name xs

abbrev pub held_named : String → List (String × List (ℕ × ℕ)) → List (ℕ × ℕ)
held_named s [] = []
held_named s (x ∷ xs) = cond (bytes_eq s x.0) x.1 (held_named s xs)

abbrev pub with_number : Numbers → Mark → List (ℕ × (String × List (ℕ × ℕ)))
with_number ns m = cond (is_needed m.form && is_of_no_node m.node) ((spelling_number ns m.name, (m.name, m.around.held)) ∷ []) []

abbrev pub with_numbers : Numbers → List Mark → List (ℕ × (String × List (ℕ × ℕ)))
with_numbers ns [] = []
with_numbers ns (m ∷ ms) = with_number ns m ++ with_numbers ns ms
