use Rattle.std.proofs.Common.{◌≡◌, ◌<◌, length, ap, ◌∙◌, arith}
use Rattle.std.proofs.lemmas.Result.{on_ok_weaker}
use Rattle.es_ctx.specs.Stores.{beside, with_slot, place_of}
use Rattle.es_ctx.proofs.Placed.{list-put}
use Rattle.es_ctx.proofs.ctx.TraverseCtx.insert.Goals as goal

pub returns-clause-lists : goal.returns-clause-lists
returns-clause-lists c =
    let place : c.place_of-place.result ≡ place_of c.args.statement.0 c.args.self.now.lists = c.place_of-place.ensures.place ∙ ap (place_of c.args.statement.0) c.as_slice.ensures in
    let within : c.place_of-place.result < length c.args.self.now.lists = omega (arith, c.place_of-place.ensures.within, ap length c.as_slice.ensures) in
    on_ok_weaker c.keep_beside.result (λ e. list-put c.args.self.now.lists c.as_mut_slice-lists.result.now c.place_of-place.result (place_of c.args.statement.0 c.args.self.now.lists) (with_slot (beside c.args.side c.args.new) c.args.statement.0) c.index-lists-place.result c.keep_beside.new.list within place c.as_mut_slice-lists.ensures.value e) c.keep_beside.ensures
