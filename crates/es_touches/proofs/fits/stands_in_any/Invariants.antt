use Rattle.std.proofs.Common.{◌≡◌, drop}
use Rattle.es_touches.specs.Comparison as compared
use Rattle.es_touches.specs.Touches.{bodies_of, body_of, touch_of, touches_of}
use Rattle.es_touches.proofs.fits.stands_in_any.Given as goal

abbrev pub invariant-loop-other : goal.invariant-loop-other
invariant-loop-other l = let stands = compared.stands_in_any l.source l.is_ready (body_of l.body) (touch_of l.touch) (touches_of l.behind) in stands (bodies_of (drop l.other-index l.source.bodies.now)) ≡ stands (bodies_of l.source.bodies.now)
