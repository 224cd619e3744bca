use Rattle.std.proofs.Common.{◌≡◌, ◌++◌, drop}
use Rattle.es_touches.specs.Touches.{touches_of}
use Rattle.es_touches.proofs.fits.add_all.Given as goal

abbrev pub invariant-loop-touch : goal.invariant-loop-touch
invariant-loop-touch l = touches_of l.touches.items ++ touches_of (drop l.touch-index l.more) ≡ touches_of l.fn.touches.items ++ touches_of l.more
