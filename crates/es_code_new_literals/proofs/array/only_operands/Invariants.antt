use Rattle.std.proofs.Common.{◌≡◌, length}
use Rattle.es_codes.specs.View.{details_of}
use Rattle.es_steps.specs.GeneratedForms.{only_operands}
use Rattle.es_code_new_literals.proofs.array.only_operands.Given as goal

abbrev pub invariant-loop-rest : goal.invariant-loop-rest
invariant-loop-rest l = only_operands (details_of l.rest) ≡ only_operands (details_of l.details)

abbrev pub decreases-loop-rest : goal.decreases-loop-rest
decreases-loop-rest l = length l.rest
