use Rattle.std.proofs.Common.{◌≡◌, drop}
use Rattle.es_steps.specs.KeptNodes.{all_pairs_stand}
use Rattle.es_owed_carriers.specs.Pairs.{pairs_of}
use Rattle.es_owed_carriers.proofs.bound.all_stand.Given as goal

abbrev pub invariant-loop-bound : goal.invariant-loop-bound
invariant-loop-bound l = all_pairs_stand (pairs_of (drop l.bound-index l.bounds)) l.pairs ≡ all_pairs_stand (pairs_of l.bounds) l.pairs
