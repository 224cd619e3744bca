use Rattle.std.proofs.Common.{◌≡◌, ◌||◌, ℕ, drop}
use Rattle.es_steps.specs.KeptNodes.{pair_stands}
use Rattle.es_owed_carriers.specs.Pairs.{pairs_of}
use Rattle.es_owed_carriers.proofs.pairs.Pairs.of.Given as goal

abbrev pub invariant-loop-bound : goal.invariant-loop-bound
invariant-loop-bound l = (p : ℕ × ℕ) → (pair_stands p l.pairs || pair_stands p (pairs_of (drop l.bound-index l.bounds))) ≡ pair_stands p (pairs_of l.bounds)
