use Rattle.std.proofs.Common.{arith}
use Rattle.serde_json.specs.View.{view as owned_view}
use Rattle.borrowed_json.proofs.Borrowing.{members_done}
use Rattle.borrowed_json.proofs.Depths.{item_depth}
use Rattle.borrowed_json.proofs.owned.+borrowed.Goals as goal

pub borrowed_items-borrowed-requires : goal.borrowed_items-borrowed-requires
borrowed_items-borrowed-requires t c = (omega (arith, item_depth owned_view c.args.items.now c.loop-item.item-index c.item-item.result c.loop-item-test.true c.item-item.is), tt)

pub borrowed_members-returns : goal.borrowed_members-returns
borrowed_members-returns t c = members_done c.loop-key.found.items c.loop-key.key-iterator c.args.members.now.entries c.in-None.ensures.steps.0 c.loop-key.invariant.same
