use Rattle.std.proofs.Common.{◌+◌, ◌*◌}
use Rattle.std.specs.Prelude.{option_map}
use Rattle.es_base.specs.Preorder.{nodes, nodes_of_part}
use Rattle.es_base.specs.Tree.{nullable}
use Rattle.es_owed_calls.proofs.naming.+naming.Given as goal

abbrev pub decreases-naming_in : goal.decreases-naming_in
decreases-naming_in l = 2 * nodes l.value.now

abbrev pub decreases-naming_at : goal.decreases-naming_at
decreases-naming_at l = 2 * nodes_of_part (nullable (option_map (λ x. x.now) l.value)) + 1
