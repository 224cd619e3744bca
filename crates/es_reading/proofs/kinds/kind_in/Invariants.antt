use Rattle.std.proofs.Common.{◌≡◌, drop}
use Rattle.es_reading.specs.Kinds.{kind_in, kind_among}
use Rattle.borrowed_json.specs.View.{view}
use Rattle.es_reading.proofs.kinds.kind_in.Given as goal

abbrev pub invariant-loop-kind : goal.invariant-loop-kind
invariant-loop-kind l = kind_among l.name l.spot (view l.value) l.known (drop l.kind-index l.kind-items) ≡ kind_in l.name l.spot (view l.value)
