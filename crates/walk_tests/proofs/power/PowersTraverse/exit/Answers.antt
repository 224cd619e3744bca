use Rattle.std.proofs.Common.{sym, ◌∙◌, arith}
use Rattle.walk_tests.proofs.Weights.{numbers_here}
use Rattle.walk_tests.proofs.power.PowersTraverse.exit.Goals as goal

pub fresh_id-number-requires : goal.fresh_id-number-requires
fresh_id-number-requires c = omega (arith, numbers_here c.args.node.now (c.args.self.now, c.args.ctx.now) (sym c.is_power.ensures ∙ c.if-is_power.true) c.requires.bound)

pub fresh_id-object-requires : goal.fresh_id-object-requires
fresh_id-object-requires c = omega (arith, numbers_here c.args.node.now (c.args.self.now, c.args.ctx.now) (sym c.is_power.ensures ∙ c.if-is_power.true) c.requires.bound, c.fresh_id-number.ensures.next)

pub fresh_id-property-requires : goal.fresh_id-property-requires
fresh_id-property-requires c = omega (arith, numbers_here c.args.node.now (c.args.self.now, c.args.ctx.now) (sym c.is_power.ensures ∙ c.if-is_power.true) c.requires.bound, c.fresh_id-number.ensures.next, c.fresh_id-object.ensures.next)
