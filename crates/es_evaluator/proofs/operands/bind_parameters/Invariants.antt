use Rattle.std.proofs.Common.{◌≡◌, drop}
use Rattle.es_evaluation.specs.Direct as direct
use Rattle.es_evaluator.specs.Running.{state_of}
use Rattle.es_evaluator.proofs.operands.bind_parameters.Given as goal

-- what is left to bind
abbrev pub invariant-loop-i : goal.invariant-loop-i
invariant-loop-i l = direct.bind_parameters l.names l.values (state_of l.fn.state) ≡ direct.bind_parameters (drop l.i l.names) (drop l.i l.values) (state_of l.state)
