use Rattle.std.proofs.Common.{◌≡◌, ◌++◌, drop}
use Rattle.es_owed_dead_zones.specs.Bodies.{with_fields}
use Rattle.es_touches.specs.Touches.{kept_touches}
use Rattle.es_owed_dead_zones.proofs.bodies.add_all_with_fields.Given as goal

abbrev pub invariant-loop-touch : goal.invariant-loop-touch
invariant-loop-touch l =
    let of = with_fields l.program (kept_touches l.fields) in
    kept_touches l.touches.items ++ of (kept_touches (drop l.touch-index l.more)) ≡ kept_touches l.fn.touches.items ++ of (kept_touches l.more)
