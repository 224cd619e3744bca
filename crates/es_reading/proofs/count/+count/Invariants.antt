use Rattle.std.proofs.Common.{◌≡◌, ◌+◌, ◌-◌, ◌*◌, ◌^◌, ◌≤◌, min, drop}
use Rattle.serde_json.specs.Data.{depth, items_depth, members_depth}
use Rattle.serde_json.specs.View.{view, items_view, members_view}
use Rattle.es_reading.specs.Told.{values_of_items, values_of_members}
use Rattle.es_reading.proofs.count.+count.Given as goal

abbrev pub decreases-count_value : goal.decreases-count_value
decreases-count_value l = 2 * depth (view l.value.now)

abbrev pub decreases-count_items : goal.decreases-count_items
decreases-count_items l = 2 * items_depth (items_view l.items.now) + 1

abbrev pub decreases-count_members : goal.decreases-count_members
decreases-count_members l = 2 * members_depth (members_view l.members.now.entries) + 1

abbrev pub invariant-count_items-loop-item : goal.invariant-count_items-loop-item
invariant-count_items-loop-item l = record {
  same : min (l.count + values_of_items (items_view (drop l.item-index l.items))) (2 ^ 32 - 1) ≡ min (values_of_items (items_view l.items)) (2 ^ 32 - 1);
  small : l.count ≤ 2 ^ 32 - 1;
}

abbrev pub invariant-count_members-loop-key : goal.invariant-count_members-loop-key
invariant-count_members-loop-key l = record {
  same : min (l.count + values_of_members (members_view l._key-iterator)) (2 ^ 32 - 1) ≡ min (values_of_members (members_view l.members.entries)) (2 ^ 32 - 1);
  small : l.count ≤ 2 ^ 32 - 1;
  shallow : members_depth (members_view l._key-iterator) ≤ members_depth (members_view l.members.entries);
}
