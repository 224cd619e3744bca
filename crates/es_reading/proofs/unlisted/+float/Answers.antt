use Rattle.std.proofs.Common.{arith}
use Rattle.borrowed_json.specs.View.{view}
use Rattle.es_reading.proofs.Depths.{item_depth, member_at_depth}
use Rattle.es_reading.proofs.unlisted.+float.Goals as goal

pub any_has_float-has_float-requires : goal.any_has_float-has_float-requires
any_has_float-has_float-requires t c = (omega (arith, item_depth view c.args.items.now c.loop-item.item-index c.item-item.result c.loop-item-test.true c.item-item.is), tt)

pub member_has_float-has_float-requires : goal.member_has_float-has_float-requires
member_has_float-has_float-requires t c = (omega (arith, member_at_depth c.args.members.now c.loop-entry.entry-index c.entry-item.result c.loop-entry-test.true c.entry-item.is), tt)
