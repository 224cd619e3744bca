use Rattle.std.proofs.Common.{◌≡◌, drop}
use Rattle.es_base.specs.Tree.{nullable_trees}
use Rattle.es_steps.specs.Printable.{any_bare}
use Rattle.es_printable.proofs.declarations.is_any_hole_bare.Given as goal

abbrev pub invariant-loop-node : goal.invariant-loop-node
invariant-loop-node l = any_bare (nullable_trees (drop l.node-index l.nodes)) ≡ any_bare (nullable_trees l.nodes)
