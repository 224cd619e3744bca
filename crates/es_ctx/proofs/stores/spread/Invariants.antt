use Rattle.std.proofs.Common.{◌≡◌}
use Rattle.es_base.specs.Tree.{trees}
use Rattle.es_ctx.specs.Stores.{trees_then, spread}
use Rattle.es_ctx.proofs.stores.spread.Given as goal

abbrev pub invariant-loop-node : goal.invariant-loop-node
invariant-loop-node l = trees_then l.joined (spread l.slots (trees l.node-iterator.rest.items)) ≡ spread l.fn.slots (trees l.fn.nodes)
