-- Marks with their places among all of a program.
use Rattle.std.specs.Prelude.{ℕ, ◌+◌, List, [], ◌∷◌, map}
use Rattle.es_lowered.specs.Timely.{Mark}
use Rattle.es_marks.specs.Marks.{mark_of}
use Rattle.es_marks.specs.declared.located.LocatedMark.{LocatedMark}

-- from place c on
abbrev pub located : ℕ → List Mark → List (ℕ × Mark)
located c [] = []
located c (m ∷ ms) = (c, m) ∷ located (c + 1) ms

-- in code, as definitions see them
abbrev pub located_mark : LocatedMark → ℕ × Mark
located_mark x = (x.place, mark_of x.mark.now)

abbrev pub located_of : List LocatedMark → List (ℕ × Mark)
located_of xs = map located_mark xs
