-- Nodes by their numbers.
use Rattle.std.specs.Prelude.{ℕ, List, [], ◌∷◌, ◌++◌, cond, nat_eq}
use Rattle.es_base.specs.Preorder.{number_of}
use Rattle.es_base.specs.Tree.{Tree}

-- those of a number
abbrev pub numbered : ℕ → List Tree → List Tree
numbered m [] = []
numbered m (t ∷ ts) = cond (nat_eq m (number_of t)) (t ∷ []) [] ++ numbered m ts
