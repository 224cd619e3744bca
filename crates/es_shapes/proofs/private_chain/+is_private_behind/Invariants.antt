use Rattle.es_base.specs.Preorder.{nodes}
use Rattle.es_shapes.proofs.private_chain.+is_private_behind.Given as goal

abbrev pub decreases-is_private_behind : goal.decreases-is_private_behind
decreases-is_private_behind l = nodes l.node.now
