use Rattle.std.proofs.Common.{◌≡◌, drop, map}
use Rattle.es_base.specs.Table.{field_of}
use Rattle.es_reading.specs.Members.{are_of_sorts}
use Rattle.borrowed_json.specs.View.{view}
use Rattle.es_reading.proofs.members.are_of_sorts.Given as goal

abbrev pub invariant-loop-member : goal.invariant-loop-member
invariant-loop-member l = are_of_sorts (view l.value) (map field_of (drop l.member-index l.members)) ≡ are_of_sorts (view l.value) (map field_of l.members)
