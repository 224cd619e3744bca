use Rattle.std.proofs.Common.{◌≡◌, drop}
use Rattle.es_touches.specs.Comparison as compared
use Rattle.es_touches.specs.Touches.{touch_of, touches_of}
use Rattle.es_touches.proofs.behind.stands_like.Given as goal

abbrev pub invariant-loop-i : goal.invariant-loop-i
invariant-loop-i l = let holds = compared.stands_like l.source (touch_of l.touch) (touches_of l.lowered) (touches_of l.there) in holds (touches_of (drop l.i l.there)) ≡ holds (touches_of l.there)
