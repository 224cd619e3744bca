use Rattle.std.proofs.Common.{◌≡◌, take}
use Rattle.es_evaluator.specs.Running.{names_of}
use Rattle.es_steps.specs.Entries.{without}
use Rattle.es_code_environments.proofs.names.copy_others.Given as goal

abbrev pub invariant-loop-i : goal.invariant-loop-i
invariant-loop-i l = names_of l.names.items ≡ without l.hidden (names_of (take l.i l.from))
