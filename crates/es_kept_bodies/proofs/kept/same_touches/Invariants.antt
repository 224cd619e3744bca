use Rattle.std.proofs.Common.{◌≡◌, drop}
use Rattle.es_kept_bodies.specs.Kept.{same_touch}
use Rattle.es_steps.specs.SameMeanings.{same_list}
use Rattle.es_touches.specs.Touches.{touches_of}
use Rattle.es_kept_bodies.proofs.kept.same_touches.Given as goal

abbrev pub invariant-loop-i : goal.invariant-loop-i
invariant-loop-i l = same_list same_touch (touches_of (drop l.i l.touches)) (touches_of (drop l.i l.others)) ≡ same_list same_touch (touches_of l.touches) (touches_of l.others)
