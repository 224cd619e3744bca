use Rattle.std.proofs.Common.{◌≡◌, ℕ, ◌+◌, ◌*◌, ◌-◌, ◌≤◌, length, map}
use Rattle.serde_json.specs.Data.{no_members}
use Rattle.borrowed_json.specs.Grammar.{value_in, list_from, list_in, object_from, object_in}
use Rattle.borrowed_json.specs.Members.{put_all}
use Rattle.borrowed_json.specs.View.{members_view, view}
use Rattle.borrowed_json.proofs.parse.+next.Given as goal

abbrev pub decreases-next_value : goal.decreases-next_value
decreases-next_value l = 4 * l.depth + 3

abbrev pub decreases-next_list : goal.decreases-next_list
decreases-next_list l = 4 * l.depth + 1

abbrev pub decreases-next_object : goal.decreases-next_object
decreases-next_object l = 4 * l.depth + 2

abbrev pub decreases-next_members : goal.decreases-next_members
decreases-next_members l = 4 * l.depth + 4

abbrev pub invariant-next_list-items : goal.invariant-next_list-items
invariant-next_list-items l =
    (n : ℕ) × (length l.reader ≤ n)
    × (list_in l.depth l.initial.reader ≡ list_from (value_in (l.depth - 1)) n (map view l.items.items) l.reader)
    × (length l.reader ≤ length l.initial.reader)

abbrev pub decreases-next_list-items : goal.decreases-next_list-items
decreases-next_list-items l = length l.reader

abbrev pub invariant-next_object-members : goal.invariant-next_object-members
invariant-next_object-members l =
    (n : ℕ) × (length l.reader ≤ n)
    × (object_in l.depth l.initial.reader ≡ object_from (value_in (l.depth - 1)) n (put_all l.members.items no_members) l.reader)
    × (length l.reader ≤ length l.initial.reader)

abbrev pub decreases-next_object-members : goal.decreases-next_object-members
decreases-next_object-members l = length l.reader

abbrev pub invariant-next_members-members : goal.invariant-next_members-members
invariant-next_members-members l = record {
  same : (n : ℕ) → length l.initial.reader ≤ n → (k : ℕ) × (length l.reader ≤ k)
      × (object_from (value_in l.depth) n (members_view l.initial.map.entries) l.initial.reader ≡ object_from (value_in l.depth) k (members_view l.map.entries) l.reader);
  shorter : length l.reader ≤ length l.initial.reader;
}

abbrev pub decreases-next_members-members : goal.decreases-next_members-members
decreases-next_members-members l = length l.reader
