use Rattle.std.proofs.Common.{◌≡◌, [], take, drop}
use Rattle.es_touches.specs.Comparison as compared
use Rattle.es_touches.specs.Comparison.{turned}
use Rattle.es_touches.specs.Touches.{body_of, touch_of, touches_of}
use Rattle.es_touches.proofs.fits.all_runs_fit.Given as goal

abbrev pub invariant-loop-i : goal.invariant-loop-i
invariant-loop-i l = let fit = compared.runs_fit l.source (body_of l.body) (turned (touches_of l.front) []) (touch_of l.touch) (touches_of l.behind) in fit (turned (touches_of (take l.i l.touches)) []) (touches_of (drop l.i l.touches)) ≡ fit [] (touches_of l.touches)
