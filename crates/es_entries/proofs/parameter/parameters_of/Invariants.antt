use Rattle.std.proofs.Common.{◌≡◌, ◌++◌, drop}
use Rattle.es_codes.specs.CodeView.{codes_of}
use Rattle.es_steps.specs.Entries as spec
use Rattle.es_entries.specs.Parameters.{parameters_in}
use Rattle.es_entries.proofs.parameter.parameters_of.Given as goal

abbrev pub invariant-loop-code : goal.invariant-loop-code
invariant-loop-code l = parameters_in l.parameters ++ spec.parameters_of (codes_of (drop l.code-index l.codes)) ≡ spec.parameters_of (codes_of l.codes)
