use Rattle.std.proofs.Common.{◌≡◌, ◌++◌, [], take}
use Rattle.es_lowered.specs.DeadZones as spec
use Rattle.es_touches.specs.Comparison.{turned}
use Rattle.es_touches.specs.Touches.{closures_of, touch_of, touches_of}
use Rattle.es_touches.proofs.closures.add_put_off.Given as goal

abbrev pub invariant-loop-i : goal.invariant-loop-i
invariant-loop-i l = let of = spec.put_off (closures_of l.called) l.ran (touch_of l.touch) in touches_of l.behind.items ++ of (turned (touches_of (take l.i l.front)) []) ≡ touches_of l.fn.behind.items ++ of (turned (touches_of l.front) [])
