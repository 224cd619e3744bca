use Rattle.std.proofs.Common.{subst}
use Rattle.es_base.specs.Numbered.{IsNumbered}
use Rattle.es_json.proofs.Turned.{turned}
use Rattle.es_json.proofs.read.read_as.Goals as goal

pub returns-clause-numbered : goal.returns-clause-numbered
returns-clause-numbered c is =
    subst (IsNumbered 0) c.from_node.ensures.tree (turned c.in_ok-tree.tree (c.in_ok-tree.ensures.preorder is))
