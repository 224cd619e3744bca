-- Chains that have a private name behind `?.`.
use Rattle.std.specs.Prelude.{Bool, false}
use Rattle.es_base.specs.Tree.{Tree, Node}
use Rattle.es_base.specs.declared.kind.Kind.{Kind}
use Rattle.es_steps.specs.Parts.{at}
use Rattle.es_steps.specs.Shapes.{private_behind_part}

abbrev pub is_private_chain : Tree → Bool
is_private_chain (Node Kind.ChainExpression m span semantic_id ps) = private_behind_part false (at 0 ps)
is_private_chain t = false
