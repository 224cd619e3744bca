use Rattle.std.proofs.Common.{ap, arith}
use Rattle.std.proofs.lemmas.List.{drop_all}
use Rattle.serde_json.specs.View.{view, items_view, members_view}
use Rattle.es_reading.specs.Told.{values_of_items, values_of_members}
use Rattle.es_reading.proofs.Counts.{all_counted}
use Rattle.es_reading.proofs.Depths.{item_depth}
use Rattle.es_reading.proofs.count.+count.Goals as goal

pub count_items-count_value-requires : goal.count_items-count_value-requires
count_items-count_value-requires t c = (omega (arith, item_depth view c.args.items.now c.loop-item.item-index c.item-item.result c.loop-item-test.true c.item-item.is), tt)

pub count_items-returns : goal.count_items-returns
count_items-returns t c =
    let none = ap (λ vs. values_of_items (items_view vs)) (drop_all c.loop-item.item-index c.args.items.now (omega (arith, c.loop-item-test.false))) in
    all_counted c.loop-item.count _ _ none (omega (arith, c.loop-item.invariant.small)) c.loop-item.invariant.same

pub count_members-returns : goal.count_members-returns
count_members-returns t c =
    let none = ap (λ es. values_of_members (members_view es)) c.in-None.ensures.steps.0 in
    all_counted c.loop-key.count _ _ none (omega (arith, c.loop-key.invariant.small)) c.loop-key.invariant.same
