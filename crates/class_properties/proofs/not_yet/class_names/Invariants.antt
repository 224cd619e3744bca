use Rattle.std.proofs.Common.{◌++◌, drop}
use Rattle.es_base.specs.Tree.{trees}
use Rattle.es_steps.specs.FirstForm.{class_names}
use Rattle.es_name_set.specs.Names.{HaveSame}
use Rattle.class_properties.proofs.not_yet.class_names.Given as goal

abbrev pub invariant-loop-statement : goal.invariant-loop-statement
invariant-loop-statement l = HaveSame (l.names ++ class_names (trees (drop l.statement-index l.statements))) (class_names (trees l.statements))
