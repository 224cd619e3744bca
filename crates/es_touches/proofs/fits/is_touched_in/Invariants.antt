use Rattle.std.proofs.Common.{◌≡◌, drop}
use Rattle.es_touches.specs.Comparison as compared
use Rattle.es_touches.specs.Touches.{bodies_of, form_of}
use Rattle.es_touches.proofs.fits.is_touched_in.Given as goal

abbrev pub invariant-loop-body : goal.invariant-loop-body
invariant-loop-body l = compared.is_touched_in l.source l.nodes (form_of l.form) (bodies_of (drop l.body-index l.bodies)) ≡ compared.is_touched_in l.source l.nodes (form_of l.form) (bodies_of l.bodies)
