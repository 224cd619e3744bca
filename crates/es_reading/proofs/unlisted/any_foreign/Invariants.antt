use Rattle.std.proofs.Common.{◌≡◌, drop}
use Rattle.es_reading.specs.Unlisted.{any_foreign}
use Rattle.borrowed_json.specs.View.{items_view}
use Rattle.es_reading.proofs.unlisted.any_foreign.Given as goal

abbrev pub invariant-loop-item : goal.invariant-loop-item
invariant-loop-item l = any_foreign (items_view (drop l.item-index l.items)) ≡ any_foreign (items_view l.items)
