use Rattle.std.proofs.lemmas.Result.{on_ok_weaker}
use Rattle.es_ctx.specs.Stores.{beside}
use Rattle.es_ctx.proofs.Placed.{slot-put}
use Rattle.es_ctx.proofs.stores.add_to_slot.Goals as goal

pub returns : goal.returns
returns c = on_ok_weaker c.add_to.result (λ e. slot-put c.args.slots.now c.as_mut_slice-slots.result.now c.args.at (beside c.args.side c.args.statements) c.index-slots-at.result c.add_to.new.slot c.requires c.as_mut_slice-slots.ensures.value e) c.add_to.ensures
