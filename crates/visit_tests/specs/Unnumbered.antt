-- References without their numbers, outside functions, and the functions that a walk stays out of.
use Rattle.std.specs.Prelude.{ℕ, List, [], ◌∷◌, ◌++◌, Bool, true, false}
use Rattle.es_base.specs.Numbered.{unnumbered}
use Rattle.es_base.specs.Preorder.{number_of}
use Rattle.es_base.specs.Tree.{Tree, Node}
use Rattle.es_visit.specs.Meetings.{Event, entered}
use Rattle.es_visit.specs.declared.visit_mut.Hook.{Hook}

-- a walk that stays out of functions and arrows
abbrev pub outside_functions : Hook → Tree → Bool
outside_functions Hook.Function t = false
outside_functions Hook.Arrow t = false
outside_functions hook t = true

abbrev pub without_number : Tree → Tree
without_number (Node kind id span semantic_id parts) = Node kind unnumbered span semantic_id parts

-- what a node becomes as it is left
abbrev pub change : Hook → Tree → Tree
change Hook.IdentifierReference t = without_number t
change hook t = t

-- these numbers, and that of a function that is entered
abbrev pub and_function : List ℕ → Event → List ℕ
and_function numbers (entered Hook.Function t) = numbers ++ number_of t ∷ []
and_function numbers (entered Hook.Arrow t) = numbers ++ number_of t ∷ []
and_function numbers call = numbers
