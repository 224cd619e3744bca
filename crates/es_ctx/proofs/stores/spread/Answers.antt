use Rattle.std.proofs.Common.{◌≡◌, ◌∙◌, sym, List, [], ◌∷◌, length, refl, arith}
use Rattle.es_base.specs.Tree.{trees}
use Rattle.es_ctx.specs.Stores.{spread}
use Rattle.es_ctx.proofs.Placed.{spread_done}
use Rattle.es_ctx.proofs.stores.spread.Goals as goal

none-left : {X : Type 0} (xs : List X) → length xs ≡ 0 → xs ≡ []
none-left [] e = refl
none-left (x ∷ xs) e = absurd (omega arith)

pub returns : goal.returns
returns c =
    let rest = c.loop-node.node-iterator.rest in
    let done : rest.items ≡ [] = none-left rest.items (sym rest.ok.0 ∙ c.in-None.ensures.steps.0) in
    spread_done (spread c.args.slots (trees c.args.nodes)) c.loop-node.joined c.add_left_over.new.joined rest.items c.loop-node.slots c.loop-node.invariant done c.in_ok-add_left_over.ensures
