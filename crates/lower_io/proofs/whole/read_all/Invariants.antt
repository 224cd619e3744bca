use Rattle.std.proofs.Common.{◌≤◌, ◌<◌, ◌-◌, vec_len}
use Rattle.std.specs.Io.KnownBytes.{Consumes}
use Rattle.lower_io.proofs.whole.read_all.Given as goal

abbrev pub invariant-loop-bytes : goal.invariant-loop-bytes
invariant-loop-bytes g l = record {
  some_chunk : 0 < vec_len l.chunk;
  within : vec_len l.bytes ≤ l.most;
  so_far : Consumes (g.S.Source.left l.initial.source) (g.S.Source.left l.source) l.bytes.items;
  later : g.S.Source.faults l.initial.source ≤ g.S.Source.faults l.source;
}

abbrev pub decreases-loop-bytes : goal.decreases-loop-bytes
decreases-loop-bytes g l = l.most - vec_len l.bytes
