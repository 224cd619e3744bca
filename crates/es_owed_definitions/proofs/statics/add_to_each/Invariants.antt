use Rattle.std.proofs.Common.{◌≡◌, ◌++◌, drop}
use Rattle.es_by_number.specs.Numbered.{pairs}
use Rattle.es_owed_definitions.specs.Statics.{with_classes}
use Rattle.es_owed_definitions.proofs.statics.add_to_each.Given as goal

abbrev pub invariant-loop-i : goal.invariant-loop-i
invariant-loop-i l = pairs l.items.items ++ with_classes (drop l.i l.classes) l.definition ≡ pairs l.fn.items.items ++ with_classes l.classes l.definition
