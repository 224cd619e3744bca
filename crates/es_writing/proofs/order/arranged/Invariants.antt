use Rattle.std.proofs.Common.{◌≡◌, map, take}
use Rattle.es_writing.proofs.order.arranged.Given as goal

abbrev pub invariant-loop-entry : goal.invariant-loop-entry
invariant-loop-entry l = map (λ e. e.now) l.names.items ≡ take l.entry-index l.entries
