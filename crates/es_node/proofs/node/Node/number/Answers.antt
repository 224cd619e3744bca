use Rattle.std.proofs.Common.{◌∙◌}
use Rattle.es_base.proofs.NumberedLemmas.{EachOnce-old_zero}
use Rattle.es_base.proofs.PreorderLemmas.{fits-zero, renumbered-zero}
use Rattle.es_node.proofs.node.Node.number.Goals as goal

pub renumber_from-requires : goal.renumber_from-requires
renumber_from-requires c = fits-zero c.args.self.now c.requires

pub returns-clause-tree : goal.returns-clause-tree
returns-clause-tree c = c.renumber_from.ensures.tree ∙ renumbered-zero 0 c.args.self.now

pub returns-clause-numbered : goal.returns-clause-numbered
returns-clause-numbered c = c.renumber_from.ensures.numbered (EachOnce-old_zero c.args.self.now)
