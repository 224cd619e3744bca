use Rattle.std.proofs.Common.{◌≡◌, ◌-◌, drop, length}
use Rattle.es_codes.specs.CodeView.{codes_of}
use Rattle.es_evaluator.specs.Running.{state_of}
use Rattle.es_code_rules.specs.Elsewhere.{opens_of}
use Rattle.es_class_rules.specs.Steps.{statics_at}
use Rattle.es_class_rules.proofs.classes.evaluate_statics.Given as goal

-- what is left to evaluate
abbrev pub invariant-loop-i : goal.invariant-loop-i
invariant-loop-i g l =
    let opens = opens_of l.within.definitions.now l.within.opening.now in
    statics_at opens l.class l.keys (codes_of l.elements) (state_of l.fn.state) ≡ statics_at opens l.class (drop l.i l.keys) (codes_of (drop l.i l.elements)) (state_of l.state)

abbrev pub decreases-loop-i : goal.decreases-loop-i
decreases-loop-i g l = length l.elements - l.i
