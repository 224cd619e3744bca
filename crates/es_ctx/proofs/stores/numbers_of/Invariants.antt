use Rattle.std.proofs.Common.{◌≡◌, ◌++◌, drop}
use Rattle.es_base.specs.Tree.{trees}
use Rattle.es_ctx.specs.Stores.{element_numbers}
use Rattle.es_ctx.proofs.stores.numbers_of.Given as goal

abbrev pub invariant-loop-node : goal.invariant-loop-node
invariant-loop-node l = l.numbers ++ element_numbers (trees (drop l.node-index l.nodes)) ≡ element_numbers (trees l.nodes)
