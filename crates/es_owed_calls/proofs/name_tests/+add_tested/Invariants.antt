use Rattle.es_base.specs.Preorder.{nodes}
use Rattle.es_owed_calls.proofs.name_tests.+add_tested.Given as goal

abbrev pub decreases-add_tested : goal.decreases-add_tested
decreases-add_tested l = nodes l.node.now
