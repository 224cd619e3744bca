use Rattle.std.proofs.Common.{◌≡◌, take}
use Rattle.es_codes.proofs.same.same_values.Given as goal

-- equal so far
abbrev pub invariant-loop-i : goal.invariant-loop-i
invariant-loop-i l = take l.i l.left ≡ take l.i l.right
