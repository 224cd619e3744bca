use Rattle.std.proofs.Common.{refl, sym, ◌∙◌}
use Rattle.borrowed_json.proofs.InOrder.{placed}
use Rattle.borrowed_json.proofs.members.place_of.Goals as goal

pub returns-in-Equal-clause-ok : goal.returns-in-Equal-clause-ok
returns-in-Equal-clause-ok c v = c.loop-i.invariant c.args.key refl v ∙ placed c.args.members.now c.loop-i.i c.args.key v c.index-members-i.result c.loop-i-test.true (sym c.cmp.ensures ∙ c.in-Equal.is)
