use Rattle.std.proofs.Common.{◌≡◌, drop}
use Rattle.es_base.specs.Tree.{trees}
use Rattle.es_steps.specs.Printable.{any_optional}
use Rattle.es_printable.proofs.chains.is_any_optional.Given as goal

abbrev pub invariant-loop-node : goal.invariant-loop-node
invariant-loop-node l = any_optional (trees (drop l.node-index l.nodes)) ≡ any_optional (trees l.nodes)
