use Rattle.std.proofs.Common.{◌≡◌, take}
use Rattle.es_evaluator.proofs.state.clone_names.Given as goal

-- copied so far
abbrev pub invariant-loop-i : goal.invariant-loop-i
invariant-loop-i l = l.copy.items ≡ take l.i l.names
