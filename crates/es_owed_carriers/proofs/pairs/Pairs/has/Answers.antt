use Rattle.std.proofs.Common.{◌∙◌, ap, refl}
use Rattle.es_steps.specs.KeptNodes.{pair_stands}
use Rattle.es_owed_carriers.specs.Pairs.{pair_of}
use Rattle.es_owed_carriers.specs.contracts.pairs.BoundPartialEq as bound
use Rattle.es_owed_carriers.proofs.PairSets.{contained}
use Rattle.es_owed_carriers.proofs.pairs.Pairs.has.Goals as goal

pub returns : goal.returns
returns c = c.contains.ensures ∙ contained bound.TheImpl.eq-value.it (λ b k. refl) c.args.bound c.self.inside.pairs.keys ∙ ap (pair_stands (pair_of c.args.bound)) c.self.view_is
