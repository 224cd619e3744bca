use Rattle.std.proofs.Common.{◌≡◌, drop}
use Rattle.es_steps.specs.Entries as spec
use Rattle.es_entries.specs.Parameters.{parameters_in}
use Rattle.es_entries.proofs.parameter.all_identifiers.Given as goal

abbrev pub invariant-loop-parameter : goal.invariant-loop-parameter
invariant-loop-parameter l = spec.all_identifiers (parameters_in (drop l.parameter-index l.parameters)) ≡ spec.all_identifiers (parameters_in l.parameters)
