use Rattle.es_base.specs.Preorder.{nodes}
use Rattle.program_names.proofs.suggest.+add_parts.Given as goal

abbrev pub decreases-add_parts : goal.decreases-add_parts
decreases-add_parts l = nodes l.node.now
