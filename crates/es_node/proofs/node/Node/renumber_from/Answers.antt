use Rattle.std.proofs.Common.{sym, subst}
use Rattle.es_base.specs.Numbered.{IsNumbered}
use Rattle.es_base.proofs.NumberedLemmas.{IsNumbered-renumbered}
use Rattle.es_node.proofs.node.Node.renumber_from.Goals as goal

pub returns-clause-numbered : goal.returns-clause-numbered
returns-clause-numbered c = λ once. subst (IsNumbered c.args.first) (sym c.renumber_node.ensures.tree) (IsNumbered-renumbered c.args.first c.args.self.now once)
