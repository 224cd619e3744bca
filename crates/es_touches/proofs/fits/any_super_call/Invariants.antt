use Rattle.std.proofs.Common.{◌≡◌, drop}
use Rattle.es_touches.specs.Supers.{any_super_call}
use Rattle.es_touches.specs.Touches.{touch_of, touches_of}
use Rattle.es_touches.proofs.fits.any_super_call.Given as goal

abbrev pub invariant-loop-other : goal.invariant-loop-other
invariant-loop-other l = any_super_call (touch_of l.touch) (touches_of (drop l.other-index l.others)) ≡ any_super_call (touch_of l.touch) (touches_of l.others)
