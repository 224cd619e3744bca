use Rattle.std.proofs.Common.{◌≡◌, drop}
use Rattle.es_codes.specs.CodeView.{codes_of}
use Rattle.es_steps.specs.Code.{joined}
use Rattle.es_steps.specs.Statements.{given_codes}
use Rattle.es_code_targets.proofs.caught.add_all_given.Given as goal

abbrev pub invariant-loop-parameter : goal.invariant-loop-parameter
invariant-loop-parameter l = joined (codes_of l.to) (given_codes l.node (codes_of (drop l.parameter-index l.parameters))) ≡ joined (codes_of l.fn.to) (given_codes l.node (codes_of l.fn.parameters))
