use Rattle.std.proofs.Common.{◌≡◌, ◌++◌, drop}
use Rattle.es_base.specs.Tree.{trees}
use Rattle.es_steps.specs.Scopes.{body_names}
use Rattle.es_seen_names.specs.Declarations.{declarations}
use Rattle.es_seen_names.proofs.scope.add_body_list.Given as goal

abbrev pub invariant-loop-node : goal.invariant-loop-node
invariant-loop-node l = declarations l.names.items ++ body_names (trees (drop l.node-index l.nodes)) ≡ declarations l.fn.names.items ++ body_names (trees l.nodes)
