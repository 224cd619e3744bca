use Rattle.std.proofs.Common.{◌≡◌, ◌++◌}
use Rattle.es_ctx.specs.Stores.{left_trees}
use Rattle.es_ctx.proofs.stores.add_left_over.Given as goal

abbrev pub invariant-loop-slot : goal.invariant-loop-slot
invariant-loop-slot l = l.joined ++ left_trees l.slot-iterator.rest.items ≡ l.initial.joined ++ left_trees l.fn.slots
