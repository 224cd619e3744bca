use Rattle.std.proofs.Common.{◌≡◌, drop}
use Rattle.es_touches.specs.Comparison as compared
use Rattle.es_touches.specs.Touches.{bodies_of}
use Rattle.es_touches.proofs.fits.bodies_fit_among.Given as goal

abbrev pub invariant-loop-body : goal.invariant-loop-body
invariant-loop-body l = compared.bodies_fit l.source (bodies_of (drop l.body-index l.bodies)) ≡ compared.bodies_fit l.source (bodies_of l.bodies)
