use Rattle.std.proofs.Common.{◌≡◌, ◌++◌, ◌+◌, drop, length}
use Rattle.std.specs.List.{zip}
use Rattle.es_by_number.specs.Numbered.{pairs}
use Rattle.es_grouped.proofs.runs.Runs.into_items.Given as goal

abbrev pub invariant-loop-value : goal.invariant-loop-value
invariant-loop-value g l =
    (pairs l.items.items ++ zip (drop (length l.items.items) l.numbers.items) l.value-iterator.rest.items ≡ l.fn.self)
    × (length l.numbers.items ≡ length l.items.items + length l.value-iterator.rest.items)
