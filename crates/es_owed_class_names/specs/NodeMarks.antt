-- The marks of references and classes, and whether references stand behind a class.
use Rattle.std.specs.Prelude.{ℕ, List, [], ◌∷◌, filter, Bool, ◌||◌, None}
use Rattle.es_base.specs.Tree.{Tree}
use Rattle.es_lowered.specs.ClassNames.{any_among, is_none, stand_behind}
use Rattle.es_lowered.specs.Timely.{Mark, marks, nowhere}
use Rattle.es_owed_timely.specs.Search.{has_node}

-- the marks of the references and classes of a program
abbrev pub node_marks : ℕ → Tree → List Mark
node_marks first t = marks first [] [] has_node [] nowhere None t

-- whether these references, if any, stand behind class n, these being the marks of the program
abbrev pub stand_among : List Mark → ℕ → List ℕ → Bool
stand_among ms n names = is_none names || stand_behind [] (filter (λ m. any_among (n ∷ names) m.node) ms)
