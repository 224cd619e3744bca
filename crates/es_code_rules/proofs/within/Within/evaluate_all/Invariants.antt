use Rattle.std.proofs.Common.{◌≡◌, drop}
use Rattle.es_codes.specs.CodeView.{codes_of}
use Rattle.es_evaluator.specs.Running.{state_of}
use Rattle.es_code_rules.specs.Elsewhere.{opens_of}
use Rattle.es_code_rules.specs.Steps.{all_at, all_from}
use Rattle.es_code_rules.proofs.within.Within.evaluate_all.Given as goal

-- what is left to evaluate
abbrev pub invariant-loop-i : goal.invariant-loop-i
invariant-loop-i g l =
    let opens = opens_of l.self.definitions.now l.self.opening.now in
    all_at opens (codes_of l.codes) (state_of l.fn.state) ≡ all_from opens l.values (codes_of (drop l.i l.codes)) (state_of l.state)
