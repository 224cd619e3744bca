-- What visitors look for among what they enter.
use Rattle.std.specs.Prelude.{ℕ, List, [], ◌∷◌, Bool, true, false, ◌||◌}
use Rattle.es_base.specs.Preorder.{number_of}
use Rattle.es_base.specs.Tree.{Tree}
use Rattle.es_visit.specs.Reading.{Hook, Entry, entry}
use Rattle.es_visit.specs.Reading as hook

-- a walk that stays out of functions and arrows
abbrev pub outside_functions : Hook → Tree → Bool
outside_functions hook.Function t = false
outside_functions hook.Arrow t = false
outside_functions h t = true

abbrev pub is_suspension : Hook → Bool
is_suspension hook.Await = true
is_suspension hook.Yield = true
is_suspension h = false

-- whether an `await` or a `yield` is among what was entered
abbrev pub suspends : List Entry → Bool
suspends [] = false
suspends (entry h t ∷ es) = is_suspension h || suspends es

abbrev pub number_if_class : Hook → ℕ → List ℕ → List ℕ
number_if_class hook.Class n rest = n ∷ rest
number_if_class h n rest = rest

-- the numbers of the classes among what was entered
abbrev pub classes : List Entry → List ℕ
classes [] = []
classes (entry h t ∷ es) = number_if_class h (number_of t) (classes es)
