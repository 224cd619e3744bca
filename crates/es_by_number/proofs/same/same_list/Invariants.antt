use Rattle.std.proofs.Common.{◌≡◌, drop}
use Rattle.es_steps.specs.SameMeanings.{same_list}
use Rattle.es_by_number.proofs.same.same_list.Given as goal

abbrev pub invariant-loop-i : goal.invariant-loop-i
invariant-loop-i g l = same_list g.T.Same.same (drop l.i l.left) (drop l.i l.right) ≡ same_list g.T.Same.same l.left l.right
