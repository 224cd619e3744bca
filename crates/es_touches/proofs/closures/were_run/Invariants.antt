use Rattle.std.proofs.Common.{◌≡◌, [], take}
use Rattle.es_lowered.specs.DeadZones as spec
use Rattle.es_touches.specs.Comparison.{turned}
use Rattle.es_touches.specs.Touches.{closures_of, touch_of, touches_of}
use Rattle.es_touches.proofs.closures.were_run.Given as goal

abbrev pub invariant-loop-i : goal.invariant-loop-i
invariant-loop-i l = let of = spec.were_run (closures_of l.called) (touch_of l.touch) in of l.ran.items (turned (touches_of (take l.i l.front)) []) ≡ of [] (turned (touches_of l.front) [])
