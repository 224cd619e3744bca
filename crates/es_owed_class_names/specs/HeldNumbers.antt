-- What stands in functions of generated names.
use Rattle.std.specs.Prelude.{ℕ, List, [], ◌∷◌, ◌++◌}
use Rattle.es_lowered.specs.ClassNames.{MovedFunction}

abbrev pub held_numbers : List MovedFunction → List ℕ
held_numbers [] = []
held_numbers (f ∷ fs) = f.numbers ++ held_numbers fs
