-- The generated names that a code gives a value, as environments have them.
use Rattle.std.specs.Prelude.{List, map}
use Rattle.es_opening.specs.declared.assigned.Assigned.{Assigned}
use Rattle.es_steps.specs.Evaluation.{private_key}
use Rattle.es_steps.specs.Values.{String}

abbrev pub name_of : Assigned → String
name_of (Assigned.Name s) = s.now
name_of (Assigned.Element s) = private_key s.now

abbrev pub names_of : List Assigned → List String
names_of names = map name_of names
