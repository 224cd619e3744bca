use Rattle.std.proofs.Common.{◌≡◌, ◌-◌, ◌≤◌, ◌++◌, length, take}
use Rattle.es_evaluator.specs.Running.{names_of}
use Rattle.es_steps.specs.Evaluation.{only_private}
use Rattle.es_code_environments.proofs.names.copy_private.Given as goal

abbrev pub invariant-loop-i : goal.invariant-loop-i
invariant-loop-i l = (names_of l.names.items ≡ only_private (l.i - l.first) (names_of (take l.i l.from)) ++ names_of l.fn.names.items) × (l.i - l.first ≤ length l.from - l.first)
