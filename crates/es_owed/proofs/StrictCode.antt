-- Strict code, node by node.
use Rattle.std.proofs.Common.{◌≡◌, refl, ◌++◌, Bool, ◌||◌}
use Rattle.es_base.specs.Tree.{Tree, Node}
use Rattle.es_node.specs.View.{kind_of, number_in, parts_in}
use Rattle.es_steps.specs.Strict.{if_strict, makes_strict, strict_in, strict_numbers}

pub strict_node : (strict : Bool) (t : Tree) → strict_numbers strict t ≡ if_strict (strict || makes_strict (kind_of t) (parts_in t)) (number_in t) ++ strict_in (strict || makes_strict (kind_of t) (parts_in t)) (parts_in t)
strict_node strict (Node kind m span semantic_id ps) = refl
