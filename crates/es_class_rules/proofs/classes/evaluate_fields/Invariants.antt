use Rattle.std.proofs.Common.{◌≡◌, drop}
use Rattle.es_codes.specs.CodeView.{codes_of}
use Rattle.es_evaluator.specs.Running.{state_of}
use Rattle.es_code_rules.specs.Elsewhere.{opens_of}
use Rattle.es_class_rules.specs.Steps.{fields_at}
use Rattle.es_class_rules.proofs.classes.evaluate_fields.Given as goal

-- what is left to evaluate
abbrev pub invariant-loop-i : goal.invariant-loop-i
invariant-loop-i g l =
    let opens = opens_of l.within.definitions.now l.within.opening.now in
    fields_at opens l.class (codes_of l.elements) (state_of l.fn.state) ≡ fields_at opens l.class (codes_of (drop l.i l.elements)) (state_of l.state)
