use Rattle.std.proofs.Common.{◌≡◌, ◌-◌, ◌<◌, List, length, ap, get_or, arith}
use Rattle.std.proofs.lemmas.Result.{on_ok_weaker}
use Rattle.es_base.specs.Tree.{Tree}
use Rattle.es_ctx.specs.Stores.{innermost, with_let}
use Rattle.es_ctx.specs.declared.stores.OpenList.{OpenList}
use Rattle.es_ctx.proofs.Placed.{innermost_last, list-put}
use Rattle.es_ctx.proofs.ctx.TraverseCtx.insert_let.Goals as goal

pub returns-clause-lists : goal.returns-clause-lists
returns-clause-lists c =
    let at = c.len-place.result - 1 in
    let last = innermost_last c.args.self.now.lists c.requires in
    let place : at ≡ innermost c.args.self.now.lists = omega (arith, c.len-place.ensures, last) in
    let within : at < length c.args.self.now.lists = omega (arith, c.len-place.ensures, c.requires) in
    let old : OpenList = get_or c.as_mut_slice-lists.result.now at c.index-lists-place.result in
    let kept : List Tree → OpenList = λ ds. record { numbers = old.numbers; slots = old.slots; vars = old.vars; lets = ds } in
    on_ok_weaker c.push.result (λ e. list-put c.args.self.now.lists c.as_mut_slice-lists.result.now at (innermost c.args.self.now.lists) (with_let c.args.declarator) c.index-lists-place.result _ within place c.as_mut_slice-lists.ensures.value (ap kept e)) c.push.ensures.ok
