use Rattle.std.proofs.Common.{◌∙◌, ap, refl, ◌||◌}
use Rattle.es_steps.specs.KeptNodes.{pair_stands}
use Rattle.es_owed_carriers.specs.Pairs.{pairs_of}
use Rattle.es_owed_carriers.specs.contracts.pairs.BoundPartialEq as bound
use Rattle.es_owed_carriers.proofs.PairSets.{inserted, is_pair}
use Rattle.es_owed_carriers.proofs.pairs.Pairs.insert.Goals as goal

pub returns : goal.returns
returns c = λ p. ap (λ ks. pair_stands p (pairs_of ks)) c.in_ok-insert.ensures.keys ∙ inserted bound.TheImpl.eq-value.it (λ b k. refl) p c.args.bound c.self.inside.pairs.keys ∙ ap (λ ps. is_pair p c.args.bound || pair_stands p ps) c.self.view_is
