use Rattle.std.proofs.Common.{◌≡◌, drop}
use Rattle.es_steps.specs.Evaluation.{has_instance_methods}
use Rattle.es_codes.specs.CodeView.{codes_of}
use Rattle.es_code_bodies.proofs.elements.has_private_methods.Given as goal

-- what is left to look through
abbrev pub invariant-loop-i : goal.invariant-loop-i
invariant-loop-i l = has_instance_methods (codes_of l.elements) ≡ has_instance_methods (codes_of (drop l.i l.elements))
