use Rattle.es_base.specs.Preorder.{nodes}
use Rattle.es_owed_carriers.proofs.bodies.+is_labelled_function.Given as goal

abbrev pub decreases-is_labelled_function : goal.decreases-is_labelled_function
decreases-is_labelled_function l = nodes l.statement.now
