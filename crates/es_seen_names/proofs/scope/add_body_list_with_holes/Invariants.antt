use Rattle.std.proofs.Common.{◌≡◌, ◌++◌, drop}
use Rattle.es_base.specs.Tree.{nullable_trees}
use Rattle.es_steps.specs.Scopes.{body_names}
use Rattle.es_seen_names.specs.Declarations.{declarations}
use Rattle.es_seen_names.proofs.scope.add_body_list_with_holes.Given as goal

abbrev pub invariant-loop-node : goal.invariant-loop-node
invariant-loop-node l = declarations l.names.items ++ body_names (nullable_trees (drop l.node-index l.nodes)) ≡ declarations l.fn.names.items ++ body_names (nullable_trees l.nodes)
