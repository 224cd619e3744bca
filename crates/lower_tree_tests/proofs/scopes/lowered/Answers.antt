use Rattle.std.proofs.Common.{arith, length}
use Rattle.lower_edge.proofs.Counted.{few-values}
use Rattle.lower_tree_tests.proofs.scopes.lowered.Goals as goal

pub lowered_value-requires : goal.lowered_value-requires
lowered_value-requires c = few-values c.args.text.now _ (omega (arith, c.if-text-ge-MANY_BYTES.false)) c.in-Ok.ensures.ok.1
