use Rattle.std.proofs.Common.{◌≡◌, ◌++◌, drop}
use Rattle.es_base.specs.Tree.{trees}
use Rattle.es_steps.specs.Scopes.{declarators_names}
use Rattle.es_seen_names.specs.Declarations.{declarations}
use Rattle.es_seen_names.proofs.lexical.add_declarators.Given as goal

abbrev pub invariant-loop-node : goal.invariant-loop-node
invariant-loop-node l = declarations l.names.items ++ declarators_names l.variables l.is_let (trees (drop l.node-index l.nodes)) ≡ declarations l.fn.names.items ++ declarators_names l.variables l.is_let (trees l.nodes)
