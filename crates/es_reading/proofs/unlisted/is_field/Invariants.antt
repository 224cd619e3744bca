use Rattle.std.proofs.Common.{◌≡◌, drop, map}
use Rattle.es_base.specs.Table.{field_of}
use Rattle.es_reading.specs.Unlisted.{is_field}
use Rattle.es_reading.proofs.unlisted.is_field.Given as goal

abbrev pub invariant-loop-member : goal.invariant-loop-member
invariant-loop-member l = is_field (map field_of (drop l.member-index l.members)) l.key ≡ is_field (map field_of l.members) l.key
