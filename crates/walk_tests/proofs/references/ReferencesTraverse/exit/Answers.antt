use Rattle.walk_tests.proofs.Weights.{room_here}
use Rattle.walk_tests.proofs.references.ReferencesTraverse.exit.Goals as goal

pub refer-requires : goal.refer-requires
refer-requires c = room_here c.args.node.now (c.args.self.now, c.args.ctx.now) c.requires.bound
