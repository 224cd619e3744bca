use Rattle.std.proofs.Common.{◌≡◌, ◌++◌, ℕ}
use Rattle.es_by_number.specs.Numbered.{pairs}
use Rattle.es_grouped.specs.Groups.{having, list_at}
use Rattle.es_grouped.proofs.lists.Lists.of.Given as goal

abbrev pub invariant-loop-item : goal.invariant-loop-item
invariant-loop-item g l = (m : ℕ) → list_at m l.lists ++ having m (pairs l.item-iterator.rest.items) ≡ having m (pairs l.fn.items.items)
