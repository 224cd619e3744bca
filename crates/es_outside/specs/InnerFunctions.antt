-- The names of functions in blocks, as code has them.
use Rattle.std.specs.Prelude.{ℕ, List, [], ◌∷◌, map, Bool, true, false, ◌||◌}
use Rattle.std.specs.Str.{chars}
use Rattle.std.proofs.Common.{Bor}
use Rattle.es_base.specs.Conforms.{is_among}
use Rattle.es_base.specs.Tree.{Tree, Part, Node, child}
use Rattle.es_base.specs.declared.kind.Kind.{Kind}
use Rattle.es_node.specs.View.{kind_of, parts_in}
use Rattle.es_steps.specs.References.{inner_functions}
use Rattle.es_steps.specs.Values.{String}

abbrev pub texts : List (Bor (List ℕ)) → List String
texts names = map (λ s. chars s.now) names

-- whether a function in one of these nodes has this name
abbrev pub give_name : String → List Tree → Bool
give_name s [] = false
give_name s (t ∷ ts) = is_among s (inner_functions false (kind_of t) (parts_in t)) || give_name s ts
