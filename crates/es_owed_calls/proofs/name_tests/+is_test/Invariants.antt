use Rattle.es_base.specs.Preorder.{nodes}
use Rattle.es_owed_calls.proofs.name_tests.+is_test.Given as goal

abbrev pub decreases-is_test : goal.decreases-is_test
decreases-is_test l = nodes l.node.now
