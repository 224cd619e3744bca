use Rattle.std.proofs.Common.{◌≡◌, ◌++◌, map}
use Rattle.es_grouped.proofs.runs.Runs.of.Given as goal

abbrev pub invariant-loop-item : goal.invariant-loop-item
invariant-loop-item g l =
    (l.numbers.items ++ map (λ x. x.number) l.item-iterator.rest.items ≡ map (λ x. x.number) l.fn.items.items)
    × (l.values.items ++ map (λ x. x.value) l.item-iterator.rest.items ≡ map (λ x. x.value) l.fn.items.items)
