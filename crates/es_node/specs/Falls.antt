-- Each child has fewer nodes than its parent.
use Rattle.std.specs.Prelude.{◌+◌, ◌≤◌, List, [], ◌∷◌, Option, Some, None}
use Rattle.std.proofs.Common.{arith}
use Rattle.es_base.specs.Preorder.{nodes, nodes_of}
use Rattle.es_base.specs.Tree.{Tree, trees, nullable_trees}
use Rattle.es_node.specs.declared.node.Part as code
use Rattle.es_node.specs.declared.node.Part.TheVariants as part
use Rattle.es_node.specs.declared.node.Node.TheDeep.{deep-Part}
use Rattle.es_node.specs.declared.node.Node.TheShapes.{weighed-Part-Holes-0-at-1}
use Rattle.es_node.specs.View.{parts_of}
use denote.Param.Weighed.{most}

list_falls : (ts : List Tree) → most (λ t. nodes t + 1) ts ≤ nodes_of (trees ts) + 1
list_falls [] = omega arith
list_falls (t ∷ ts) = omega (arith, list_falls ts)

holes_fall : (ts : List (Option Tree)) → most (weighed-Part-Holes-0-at-1.weight Tree (λ y. nodes y + 1)) ts ≤ nodes_of (nullable_trees ts) + 1
holes_fall [] = omega arith
holes_fall (None ∷ ts) = omega (arith, holes_fall ts)
holes_fall (Some t ∷ ts) = omega (arith, holes_fall ts)

pub fall : (ps : List code.Part) → most deep-Part ps ≤ nodes_of (parts_of ps) + 1
fall [] = omega arith
fall (part.Child t ∷ ps) = omega (arith, fall ps)
fall (part.Absent ∷ ps) = omega (arith, fall ps)
fall (part.List ts ∷ ps) = omega (arith, fall ps, list_falls ts)
fall (part.Holes ts ∷ ps) = omega (arith, fall ps, holes_fall ts)
fall (part.String s ∷ ps) = omega (arith, fall ps)
fall (part.NoString ∷ ps) = omega (arith, fall ps)
fall (part.Word w ∷ ps) = omega (arith, fall ps)
fall (part.Boolean b ∷ ps) = omega (arith, fall ps)
fall (part.Literal v ∷ ps) = omega (arith, fall ps)
