use Rattle.std.proofs.Common.{◌≡◌, drop}
use Rattle.es_touches.specs.Comparison as compared
use Rattle.es_touches.specs.Touches.{touch_of, touches_of}
use Rattle.es_touches.proofs.fits.any_super_of_source.Given as goal

abbrev pub invariant-loop-other : goal.invariant-loop-other
invariant-loop-other l = compared.is_behind_super l.source (touch_of l.touch) (touches_of (drop l.other-index l.others)) ≡ compared.is_behind_super l.source (touch_of l.touch) (touches_of l.others)
