use Rattle.std.proofs.Common.{◌≡◌, drop}
use Rattle.es_touches.specs.Comparison as compared
use Rattle.es_touches.specs.Touches.{form_of, touches_of}
use Rattle.es_touches.proofs.fits.is_touched_as.Given as goal

abbrev pub invariant-loop-touch : goal.invariant-loop-touch
invariant-loop-touch l = compared.is_touched_as l.source l.nodes (form_of l.form) (touches_of (drop l.touch-index l.touches)) ≡ compared.is_touched_as l.source l.nodes (form_of l.form) (touches_of l.touches)
