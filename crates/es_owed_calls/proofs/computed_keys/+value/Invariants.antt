use Rattle.std.proofs.Common.{◌+◌, ◌*◌}
use Rattle.es_base.specs.Preorder.{nodes, nodes_of}
use Rattle.es_base.specs.Tree.{trees}
use Rattle.es_owed_calls.proofs.computed_keys.+value.Given as goal

abbrev pub decreases-value_number : goal.decreases-value_number
decreases-value_number l = 2 * nodes l.node.now

abbrev pub decreases-last_value_number : goal.decreases-last_value_number
decreases-last_value_number l = 2 * nodes_of (trees l.expressions.now) + 1
