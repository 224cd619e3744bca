use Rattle.es_base.specs.Preorder.{nodes}
use Rattle.es_validity.proofs.parts.+has_optional.Given as goal

abbrev pub decreases-has_optional : goal.decreases-has_optional
decreases-has_optional l = nodes l.node.now
