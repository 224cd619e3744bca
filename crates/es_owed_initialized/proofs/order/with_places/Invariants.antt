use Rattle.std.proofs.Common.{◌≡◌, ◌++◌, drop}
use Rattle.es_binding_faults.specs.Seen.{seen}
use Rattle.es_by_number.specs.Numbered.{pairs}
use Rattle.es_owed_initialized.specs.Order.{places_from}
use Rattle.es_owed_initialized.proofs.order.with_places.Given as goal

abbrev pub invariant-loop-i : goal.invariant-loop-i
invariant-loop-i l = pairs l.items.items ++ places_from l.i (seen (drop l.i l.nodes)) ≡ places_from 0 (seen l.nodes)
