use Rattle.std.proofs.Common.{◌∙◌}
use Rattle.es_steps.specs.KeptNodes.{pair_stands}
use Rattle.es_owed_carriers.proofs.PairSets.{all_pairs, next_pair}
use Rattle.es_owed_carriers.proofs.pairs.Pairs.of.Goals as goal

pub loop-bound-preserved : goal.loop-bound-preserved
loop-bound-preserved c = λ p. next_pair p (pair_stands p c.loop-bound.pairs) (pair_stands p c.insert.new.self) c.args.bounds.now c.loop-bound.bound-index (record { node = 0; around = 0 }) c.loop-bound-test.true (c.in_ok-insert.ensures p) ∙ c.loop-bound.invariant p

pub returns : goal.returns
returns c = λ p. all_pairs p (pair_stands p c.loop-bound.pairs) _ c.args.bounds.now c.loop-bound.bound-index c.loop-bound-test.false (c.loop-bound.invariant p)
