use Rattle.std.proofs.Common.{◌≡◌, ◌++◌, drop, option_map}
use Rattle.borrowed_json.specs.View.{items_view}
use Rattle.es_ledger.specs.Ledger.{entries_in}
use Rattle.es_ledger.proofs.ledger.read_entries.Given as goal

abbrev pub invariant-loop-item : goal.invariant-loop-item
invariant-loop-item l = option_map (λ es. l.entries ++ es) (entries_in (items_view (drop l.item-index l.items))) ≡ entries_in (items_view l.items)
