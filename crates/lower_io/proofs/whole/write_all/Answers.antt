use Rattle.std.proofs.Common.{rules}
use Rattle.lower_io.proofs.HeldLemmas.{Extends-more}
use Rattle.lower_io.proofs.whole.write_all.Goals as goal

pub loop-written-preserved : goal.loop-written-preserved
loop-written-preserved g c = record {
  within = search rules;
  so_far = Extends-more _ _ _ c.args.bytes.now c.loop-written.written c.in_ok-count.count c.loop-written.invariant.so_far c.in_ok-count.ensures.bytes;
  later = search rules;
}
