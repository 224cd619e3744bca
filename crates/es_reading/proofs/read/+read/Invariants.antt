use Rattle.std.proofs.Common.{◌≡◌, ◌+◌, ◌*◌, ◌≤◌, List, ◌++◌, map, drop, true}
use Rattle.borrowed_json.specs.View.{view, items_view}
use Rattle.serde_json.specs.Data.{depth}
use Rattle.es_base.specs.Preorder.{nodes_of}
use Rattle.es_base.specs.Table.{field_of}
use Rattle.es_base.specs.Tree.{trees, nullable_trees}
use Rattle.es_node.specs.View.{parts_of, have_shapes}
use Rattle.es_node.specs.declared.node.Part.{Part}
use Rattle.es_reading.proofs.Walk.{Begun}
use Rattle.es_reading.specs.Members.{are_of_sorts}
use Rattle.es_reading.specs.Reading.{each, finds, members_in}
use Rattle.es_reading.specs.Told.{ids, item_in, values_of_items, values_at}
use Rattle.es_reading.proofs.read.+read.Given as goal

abbrev pub decreases-read_node : goal.decreases-read_node
decreases-read_node l = 8 * depth (view l.value.now) + 3

abbrev pub decreases-read_members : goal.decreases-read_members
decreases-read_members l = 8 * depth (view l.value.now) + 2

abbrev pub decreases-read_member : goal.decreases-read_member
decreases-read_member l = 8 * depth (view l.value.now) + 1

abbrev pub decreases-read_child : goal.decreases-read_child
decreases-read_child l = 8 * depth (view l.value.now)

abbrev pub decreases-read_nullable : goal.decreases-read_nullable
decreases-read_nullable l = 8 * depth (view l.value.now)

abbrev pub decreases-read_nullable_node : goal.decreases-read_nullable_node
decreases-read_nullable_node l = 8 * depth (view l.value.now) + 4

abbrev pub decreases-read_list : goal.decreases-read_list
decreases-read_list l = 8 * depth (view l.value.now)

abbrev pub decreases-read_list_with_holes : goal.decreases-read_list_with_holes
decreases-read_list_with_holes l = 8 * depth (view l.value.now)

abbrev pub invariant-read_list-loop-i : goal.invariant-read_list-loop-i
invariant-read_list-loop-i l = record {
  numbers : l.next ≡ l.fn.at + nodes_of (trees l.nodes);
  bound : l.next + values_of_items (items_view (drop l.i l.items)) ≤ l.fn.at + values_of_items (items_view l.items);
  begun : Begun (each (item_in l.reader.numbers l.slots) l.items l.fn.at) (each (item_in l.reader.numbers l.slots) (drop l.i l.items) l.next) (trees l.nodes) (ids l.fn.foreign) (ids l.foreign);
}

abbrev pub invariant-read_list_with_holes-loop-i : goal.invariant-read_list_with_holes-loop-i
invariant-read_list_with_holes-loop-i l = record {
  numbers : l.next ≡ l.fn.at + nodes_of (nullable_trees l.nodes);
  bound : l.next + values_of_items (items_view (drop l.i l.items)) ≤ l.fn.at + values_of_items (items_view l.items);
  begun : Begun (each (item_in l.reader.numbers l.slots) l.items l.fn.at) (each (item_in l.reader.numbers l.slots) (drop l.i l.items) l.next) (nullable_trees l.nodes) (ids l.fn.foreign) (ids l.foreign);
}

abbrev pub invariant-read_members-loop-member : goal.invariant-read_members-loop-member
invariant-read_members-loop-member l =
    let read_all = members_in (finds l.reader.numbers (view l.value)) (view l.value) l.parent in
    record {
      numbers : l.next ≡ l.fn.at + nodes_of (parts_of l.parts);
      bound : l.next + values_at (view l.value) (map field_of (drop l.member-index l.members)) ≤ l.fn.at + values_at (view l.value) (map field_of l.members);
      good : are_of_sorts (view l.value) (map field_of (drop l.member-index l.members)) ≡ true;
      shapes : (qs : List Part) → have_shapes (map field_of (drop l.member-index l.members)) qs ≡ true → have_shapes (map field_of l.members) (l.parts ++ qs) ≡ true;
      begun : Begun (read_all (map field_of l.members) l.fn.at) (read_all (map field_of (drop l.member-index l.members)) l.next) (parts_of l.parts) (ids l.fn.foreign) (ids l.foreign);
    }
