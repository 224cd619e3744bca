use Rattle.std.proofs.Common.{◌≡◌, map, take}
use Rattle.es_steps.specs.Evaluation.{template_details}
use Rattle.es_codes.specs.View.{details_of}
use Rattle.es_codes.specs.CodeView.{string_of}
use Rattle.es_evaluator.proofs.templates.template_details.Given as goal

-- the details so far
abbrev pub invariant-loop-i : goal.invariant-loop-i
invariant-loop-i l = details_of l.details ≡ template_details (map string_of (take l.i l.strings))
