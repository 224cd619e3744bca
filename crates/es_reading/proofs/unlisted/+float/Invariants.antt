use Rattle.std.proofs.Common.{◌≡◌, ◌+◌, ◌*◌, drop}
use Rattle.serde_json.specs.Data.{depth, items_depth, members_depth}
use Rattle.borrowed_json.specs.View.{view, items_view, members_view}
use Rattle.serde_json.specs.Written.{items_have_float, members_have_float}
use Rattle.es_reading.proofs.unlisted.+float.Given as goal

abbrev pub invariant-any_has_float-loop-item : goal.invariant-any_has_float-loop-item
invariant-any_has_float-loop-item l = items_have_float (items_view (drop l.item-index l.items)) ≡ items_have_float (items_view l.items)

abbrev pub invariant-member_has_float-loop-entry : goal.invariant-member_has_float-loop-entry
invariant-member_has_float-loop-entry l = members_have_float (members_view (drop l.entry-index l.members)) ≡ members_have_float (members_view l.members)

abbrev pub decreases-has_float : goal.decreases-has_float
decreases-has_float l = 2 * depth (view l.value.now)

abbrev pub decreases-any_has_float : goal.decreases-any_has_float
decreases-any_has_float l = 2 * items_depth (items_view l.items.now) + 1

abbrev pub decreases-member_has_float : goal.decreases-member_has_float
decreases-member_has_float l = 2 * members_depth (members_view l.members.now) + 1
