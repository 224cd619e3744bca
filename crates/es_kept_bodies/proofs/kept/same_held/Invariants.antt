use Rattle.std.proofs.Common.{◌≡◌, drop}
use Rattle.es_kept_bodies.specs.Kept.{same_part}
use Rattle.es_marks.specs.Around.{held_parts}
use Rattle.es_steps.specs.SameMeanings.{same_list}
use Rattle.es_kept_bodies.proofs.kept.same_held.Given as goal

abbrev pub invariant-loop-i : goal.invariant-loop-i
invariant-loop-i l = same_list same_part (held_parts (drop l.i l.parts)) (held_parts (drop l.i l.others)) ≡ same_list same_part (held_parts l.parts) (held_parts l.others)
