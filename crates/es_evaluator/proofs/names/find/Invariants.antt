use Rattle.std.proofs.Common.{◌≡◌, ◌≤◌, length, take}
use Rattle.es_steps.specs.Evaluation.{found}
use Rattle.es_evaluator.specs.Running.{names_of}
use Rattle.es_evaluator.proofs.names.find.Given as goal

-- none of the names from i on is the one
abbrev pub invariant-loop-i : goal.invariant-loop-i
invariant-loop-i l = (l.i ≤ length l.names) × (found l.name (names_of l.names) ≡ found l.name (names_of (take l.i l.names)))

abbrev pub decreases-loop-i : goal.decreases-loop-i
decreases-loop-i l = l.i
