use Rattle.std.proofs.Common.{◌≡◌, drop}
use Rattle.es_codes.specs.CodeView.{codes_of}
use Rattle.es_steps.specs.GeneratedForms as spec
use Rattle.es_code_generated_calls.specs.Arrows.{names_behind}
use Rattle.es_code_generated_calls.proofs.arrow.parameter_names.Given as goal

abbrev pub invariant-loop-parameter : goal.invariant-loop-parameter
invariant-loop-parameter l = names_behind l.names (spec.parameter_names (codes_of (drop l.parameter-index l.parameters))) ≡ spec.parameter_names (codes_of l.parameters)
