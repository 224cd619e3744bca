use Rattle.std.proofs.Common.{◌+◌, ◌*◌}
use Rattle.std.specs.Prelude.{option_map}
use Rattle.es_base.specs.Preorder.{nodes, nodes_of_part}
use Rattle.es_base.specs.Tree.{nullable}
use Rattle.es_owed_calls.proofs.key_forms.+key_forms.Given as goal

abbrev pub decreases-has_key : goal.decreases-has_key
decreases-has_key l = 3 * nodes l.node.now + 1

abbrev pub decreases-form_has_key : goal.decreases-form_has_key
decreases-form_has_key l = 3 * nodes l.node.now

abbrev pub decreases-part_has_key : goal.decreases-part_has_key
decreases-part_has_key l = 3 * nodes_of_part (nullable (option_map (λ x. x.now) l.node)) + 2
