use Rattle.std.proofs.Common.{◌≡◌, drop, map}
use Rattle.es_base.specs.Table.{field_of}
use Rattle.es_reading.specs.Unlisted.{floats_in}
use Rattle.borrowed_json.specs.View.{members_view}
use Rattle.es_reading.proofs.unlisted.floats_in.Given as goal

abbrev pub invariant-loop-entry : goal.invariant-loop-entry
invariant-loop-entry l = floats_in (map field_of l.members) (members_view (drop l.entry-index l.object)) ≡ floats_in (map field_of l.members) (members_view l.object)
