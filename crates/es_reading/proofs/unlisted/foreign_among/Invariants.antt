use Rattle.std.proofs.Common.{◌≡◌, drop}
use Rattle.es_reading.specs.Unlisted.{foreign_among}
use Rattle.borrowed_json.specs.View.{members_view}
use Rattle.es_reading.proofs.unlisted.foreign_among.Given as goal

abbrev pub invariant-loop-entry : goal.invariant-loop-entry
invariant-loop-entry l = foreign_among l.kind (members_view (drop l.entry-index l.object)) ≡ foreign_among l.kind (members_view l.object)
