use Rattle.std.proofs.Common.{◌+◌, ◌*◌, option_map}
use Rattle.es_base.specs.Preorder.{nodes, nodes_of_part}
use Rattle.es_base.specs.Tree.{nullable}
use Rattle.es_outside.proofs.inner_functions.+functions.Given as goal

abbrev pub decreases-add_function_name : goal.decreases-add_function_name
decreases-add_function_name l = 2 * nodes l.node.now

abbrev pub decreases-add_branches : goal.decreases-add_branches
decreases-add_branches l = 2 * (nodes l.statement.consequent.now + nodes_of_part (nullable (option_map (λ x. x.now) l.statement.alternate))) + 1
