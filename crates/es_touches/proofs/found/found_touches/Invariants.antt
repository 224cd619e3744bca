use Rattle.es_touches.specs.Counts.{AreFound}
use Rattle.es_touches.specs.Touches.{body_of}
use Rattle.es_touches.proofs.found.found_touches.Given as goal

abbrev pub invariant-loop-place : goal.invariant-loop-place
invariant-loop-place l = AreFound l.source (body_of l.body) l.touches l.found.items
