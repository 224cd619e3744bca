use Rattle.std.proofs.Common.{◌≡◌, ◌≤◌, length, ap, ◌∙◌, arith}
use Rattle.es_ctx.specs.Stores.{slot_place}
use Rattle.es_ctx.proofs.Placed.{slot_none}
use Rattle.es_ctx.proofs.stores.take_slot.Goals as goal

pub returns-else-at-len-clause-rest : goal.returns-else-at-len-clause-rest
returns-else-at-len-clause-rest c =
    let place : c.slot_place-at.result ≡ slot_place c.args.number c.args.slots.now = c.slot_place-at.ensures ∙ ap (slot_place c.args.number) c.as_slice.ensures in
    let past : length c.args.slots.now ≤ slot_place c.args.number c.args.slots.now = omega (arith, c.if-at-len.false, c.len.ensures, place) in
    (slot_none c.args.number c.args.slots.now past).1
