use Rattle.std.proofs.Common.{◌≡◌, ◌++◌}
use Rattle.es_ctx.proofs.stores.append.Given as goal

abbrev pub invariant-loop-node : goal.invariant-loop-node
invariant-loop-node l = l.joined ++ l.node-iterator.rest.items ≡ l.initial.joined ++ l.fn.more
