use Rattle.std.proofs.Common.{◌≡◌, ◌++◌, drop}
use Rattle.es_by_number.specs.Numbered as by_number
use Rattle.es_touches.specs.Touches.{bodies_of}
use Rattle.es_kept_bodies.specs.Indexed.{body_seen, numbered_bodies}
use Rattle.es_kept_bodies.proofs.indexed.with_numbers.Given as goal

abbrev pub invariant-loop-body : goal.invariant-loop-body
invariant-loop-body l = by_number.numbered body_seen l.items.items ++ numbered_bodies (bodies_of (drop l.body-index l.bodies)) ≡ numbered_bodies (bodies_of l.bodies)
