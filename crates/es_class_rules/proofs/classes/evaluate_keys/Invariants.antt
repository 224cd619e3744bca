use Rattle.std.proofs.Common.{◌≡◌, drop}
use Rattle.es_codes.specs.CodeView.{codes_of}
use Rattle.es_evaluator.specs.Running.{state_of}
use Rattle.es_code_rules.specs.Elsewhere.{opens_of}
use Rattle.es_class_rules.specs.Steps.{keys_at, keys_from}
use Rattle.es_class_rules.proofs.classes.evaluate_keys.Given as goal

-- what is left to evaluate
abbrev pub invariant-loop-i : goal.invariant-loop-i
invariant-loop-i g l =
    let opens = opens_of l.within.definitions.now l.within.opening.now in
    keys_at opens (codes_of l.elements) (state_of l.fn.state) ≡ keys_from opens l.keys (codes_of (drop l.i l.elements)) (state_of l.state)
