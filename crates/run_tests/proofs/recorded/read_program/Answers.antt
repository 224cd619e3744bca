use Rattle.std.proofs.Common.{arith, length}
use Rattle.std.specs.Prelude.{nat_le}
use Rattle.lower_edge.proofs.Counted.{few-values}
use Rattle.run_tests.proofs.recorded.read_program.Goals as goal

pub read_tree-requires : goal.read_tree-requires
read_tree-requires c = few-values c.args.text.now _ (omega (arith, c.if-text-ge-MANY_BYTES.false)) c.in-Ok.ensures.ok.1
