use Rattle.std.proofs.Common.{◌≡◌, drop}
use Rattle.es_codes.specs.CodeView.{codes_of}
use Rattle.es_evaluator.specs.Running.{state_of}
use Rattle.es_code_rules.specs.Elsewhere.{opens_of}
use Rattle.es_code_rules.specs.Steps.{converted_at, converted_from}
use Rattle.es_code_rules.proofs.within.Within.evaluate_converted.Given as goal

-- what is left to evaluate
abbrev pub invariant-loop-i : goal.invariant-loop-i
invariant-loop-i g l =
    let opens = opens_of l.self.definitions.now l.self.opening.now in
    converted_at opens l.node (codes_of l.codes) (state_of l.fn.state) ≡ converted_from opens l.node l.i l.values (codes_of (drop l.i l.codes)) (state_of l.state)
