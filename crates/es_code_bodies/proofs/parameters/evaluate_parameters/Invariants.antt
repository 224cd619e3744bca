use Rattle.std.proofs.Common.{◌≡◌, drop}
use Rattle.es_codes.specs.CodeView.{codes_of}
use Rattle.es_evaluator.specs.Running.{state_of}
use Rattle.es_code_rules.specs.Elsewhere.{opens_of}
use Rattle.es_code_bodies.specs.Bodies.{parameters_at, parameters_from}
use Rattle.es_code_bodies.proofs.parameters.evaluate_parameters.Given as goal

-- what is left to evaluate
abbrev pub invariant-loop-i : goal.invariant-loop-i
invariant-loop-i g l =
    let opens = opens_of l.within.definitions.now l.within.opening.now in
    parameters_at opens (codes_of l.parameters) (state_of l.fn.state) ≡ parameters_from opens l.i (codes_of (drop l.i l.parameters)) (state_of l.state)
