-- Nodes with the classes that they hold.
use Rattle.std.specs.Prelude.{ℕ, List, [], ◌∷◌, ◌++◌, cond, map}
use Rattle.es_base.specs.Preorder.{number_of, preorder}
use Rattle.es_base.specs.Tree.{Tree}
use Rattle.es_lowered.specs.ClassNames.{common, numbers_of}
use Rattle.es_steps.specs.References.{has_number}

-- a function with each of the classes that it holds
abbrev pub each_held : ℕ → List ℕ → List (ℕ × ℕ)
each_held k ns = map (λ n. (n, k)) ns

-- of a node that has the number of one of these functions, those of these classes that stand in it
abbrev pub held_by : List ℕ → List ℕ → Tree → List (ℕ × ℕ)
held_by functions classes t = cond (has_number (number_of t) functions) (each_held (number_of t) (common classes (numbers_of (preorder t)))) []

abbrev pub holding : List ℕ → List ℕ → List Tree → List (ℕ × ℕ)
holding functions classes [] = []
holding functions classes (t ∷ ts) = held_by functions classes t ++ holding functions classes ts
