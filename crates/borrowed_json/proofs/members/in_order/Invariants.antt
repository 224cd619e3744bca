use Rattle.std.proofs.Common.{◌≡◌}
use Rattle.std.specs.Vec.Iter.{into_iter_items}
use Rattle.serde_json.specs.Data.{no_members}
use Rattle.borrowed_json.specs.Members.{put_all}
use Rattle.borrowed_json.specs.View.{members_view}
use Rattle.borrowed_json.proofs.members.in_order.Given as goal

abbrev pub invariant-loop-key : goal.invariant-loop-key
invariant-loop-key l = put_all (into_iter_items l.key-iterator) (members_view l.members.items) ≡ put_all l.fn.read.items no_members
