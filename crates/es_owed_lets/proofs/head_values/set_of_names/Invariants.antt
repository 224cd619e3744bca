use Rattle.std.proofs.Common.{◌++◌, drop}
use Rattle.es_name_set.specs.Names.{HaveSame}
use Rattle.es_owed_lets.specs.Heads.{spelled}
use Rattle.es_owed_lets.proofs.head_values.set_of_names.Given as goal

abbrev pub invariant-loop-string : goal.invariant-loop-string
invariant-loop-string l = HaveSame (l.names ++ spelled (drop l.string-index l.strings)) (spelled l.strings)
