use Rattle.es_base.specs.Preorder.{nodes}
use Rattle.es_validity.proofs.jumps.+is_looping.Given as goal

abbrev pub decreases-is_looping : goal.decreases-is_looping
decreases-is_looping l = nodes l.node.now
