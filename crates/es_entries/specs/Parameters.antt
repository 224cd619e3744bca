-- Parameters in code, as definitions see them.
use Rattle.std.specs.Prelude.{List, map}
use Rattle.es_steps.specs.Entries as spec
use Rattle.es_entries.specs.declared.parameter.Parameter.{Parameter}

abbrev pub parameter_in : Parameter → spec.Parameter
parameter_in (Parameter.Identifier b) = spec.Identifier b
parameter_in (Parameter.RestIdentifier b) = spec.RestIdentifier b
parameter_in Parameter.Pattern = spec.Pattern

abbrev pub parameters_in : List Parameter → List spec.Parameter
parameters_in ps = map parameter_in ps
