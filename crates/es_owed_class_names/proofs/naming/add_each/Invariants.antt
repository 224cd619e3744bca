use Rattle.std.proofs.Common.{◌≡◌, ◌++◌, drop}
use Rattle.es_by_number.specs.Numbered.{pairs}
use Rattle.es_owed_class_names.specs.NamedClasses.{each}
use Rattle.es_owed_class_names.proofs.naming.add_each.Given as goal

abbrev pub invariant-loop-i : goal.invariant-loop-i
invariant-loop-i l = pairs l.items.items ++ each (drop l.i l.classes) l.number ≡ pairs l.fn.items.items ++ each l.classes l.number
