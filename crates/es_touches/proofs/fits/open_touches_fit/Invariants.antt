use Rattle.std.proofs.Common.{◌≡◌, [], take, drop}
use Rattle.es_touches.specs.Comparison as compared
use Rattle.es_touches.specs.Comparison.{turned}
use Rattle.es_touches.specs.Touches.{body_of, touches_of}
use Rattle.es_touches.proofs.fits.open_touches_fit.Given as goal

abbrev pub invariant-loop-i : goal.invariant-loop-i
invariant-loop-i l = let fits = compared.touches_fit l.source (body_of l.body) in fits (turned (touches_of (take l.i l.touches)) []) (touches_of (drop l.i l.touches)) ≡ fits [] (touches_of l.touches)
