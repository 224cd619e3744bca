use Rattle.std.proofs.Common.{◌≡◌, ◌++◌, drop}
use Rattle.es_by_number.specs.Numbered.{pairs}
use Rattle.es_owed_class_names.specs.NamedClasses.{declared_by}
use Rattle.es_owed_class_names.proofs.naming.add_declared.Given as goal

abbrev pub invariant-loop-identifier : goal.invariant-loop-identifier
invariant-loop-identifier l = pairs l.items.items ++ declared_by l.class (drop l.identifier-index l.identifiers) ≡ pairs l.fn.items.items ++ declared_by l.class l.identifiers
