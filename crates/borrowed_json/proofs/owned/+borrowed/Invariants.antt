use Rattle.std.proofs.Common.{◌≡◌, ◌+◌, ◌*◌, ◌≤◌, ◌++◌, map, take}
use Rattle.serde_json.specs.Data.{depth, items_depth, members_depth}
use Rattle.serde_json.specs.View.{view as owned_view, items_view as owned_items, members_view as owned_members}
use Rattle.borrowed_json.specs.View.{view}
use Rattle.borrowed_json.proofs.Borrowing.{pair, owned_pair}
use Rattle.borrowed_json.proofs.owned.+borrowed.Given as goal

abbrev pub decreases-borrowed : goal.decreases-borrowed
decreases-borrowed l = 2 * depth (owned_view l.value.now)

abbrev pub decreases-borrowed_items : goal.decreases-borrowed_items
decreases-borrowed_items l = 2 * items_depth (owned_items l.items.now) + 1

abbrev pub decreases-borrowed_members : goal.decreases-borrowed_members
decreases-borrowed_members l = 2 * members_depth (owned_members l.members.now.entries) + 1

abbrev pub invariant-borrowed_items-loop-item : goal.invariant-borrowed_items-loop-item
invariant-borrowed_items-loop-item l = map view l.found.items ≡ map owned_view (take l.item-index l.items)

abbrev pub invariant-borrowed_members-loop-key : goal.invariant-borrowed_members-loop-key
invariant-borrowed_members-loop-key l = record {
  same : map pair l.found.items ++ map owned_pair l.key-iterator ≡ map owned_pair l.members.entries;
  shallow : members_depth (owned_members l.key-iterator) ≤ members_depth (owned_members l.members.entries);
}
