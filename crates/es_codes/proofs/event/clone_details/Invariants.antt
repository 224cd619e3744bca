use Rattle.std.proofs.Common.{◌≡◌, take}
use Rattle.es_codes.proofs.event.clone_details.Given as goal

-- copied so far
abbrev pub invariant-loop-i : goal.invariant-loop-i
invariant-loop-i l = l.copy ≡ take l.i l.details
