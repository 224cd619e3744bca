use Rattle.std.proofs.Common.{◌≡◌, ◌++◌, drop}
use Rattle.es_touches.specs.Touches.{kept_touches, touches_of}
use Rattle.es_touches.proofs.touch.lent.Given as goal

abbrev pub invariant-loop-touch : goal.invariant-loop-touch
invariant-loop-touch l = touches_of l.touches.items ++ kept_touches (drop l.touch-index l.kept) ≡ kept_touches l.kept
