-- A `super(..)` that is a statement.
use Rattle.std.specs.Prelude.{ℕ, cond, Option, Some, None}
use Rattle.es_base.specs.Tree.{Part, Node, child, more}
use Rattle.es_base.specs.declared.kind.Kind.{Kind}
use Rattle.es_steps.specs.Context.{part_holds_super}

-- the number of a call `super(..)`, if no argument of it holds one
abbrev pub super_call : Part → Option ℕ
super_call (child (Node Kind.CallExpression k kspan k_semantic_id (more (child (Node Kind.Super s sspan s_semantic_id ss)) (more arguments rest)))) = cond (part_holds_super arguments) None (Some k)
super_call p = None
