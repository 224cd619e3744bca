use Rattle.std.proofs.Common.{◌≡◌, drop, map}
use Rattle.es_base.specs.Table.{field_of}
use Rattle.es_reading.specs.Unlisted.{is_node_member}
use Rattle.es_reading.proofs.unlisted.is_node_member.Given as goal

abbrev pub invariant-loop-member : goal.invariant-loop-member
invariant-loop-member l = is_node_member (map field_of (drop l.member-index l.members)) l.key ≡ is_node_member (map field_of l.members) l.key
