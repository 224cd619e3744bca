use Rattle.std.proofs.Common.{◌≡◌, map, drop, length}
use Rattle.es_base.specs.Conforms.{boolean_at}
use Rattle.es_base.specs.Table.{field_of}
use Rattle.es_node.specs.View.{parts_of}
use Rattle.es_visit.proofs.roles.is_true_at_member.Given as goal

abbrev pub invariant-loop-member : goal.invariant-loop-member
invariant-loop-member l =
    (goal.iterator-loop-member).can_next l.member-iterator ×
    (goal.iterator-loop-member).is_finite l.member-iterator ×
    (boolean_at l.name (map field_of (drop (length l.yielded) l.members)) (parts_of (drop (length l.yielded) l.parts)) ≡ boolean_at l.name (map field_of l.members) (parts_of l.parts))
