use Rattle.std.proofs.Common.{◌≡◌, ◌++◌, drop}
use Rattle.es_by_number.specs.Numbered.{pairs}
use Rattle.es_owed_class_names.specs.Holders.{each_held}
use Rattle.es_owed_class_names.proofs.holders.add_each.Given as goal

abbrev pub invariant-loop-class : goal.invariant-loop-class
invariant-loop-class l = pairs l.items.items ++ each_held l.function (drop l.class-index l.classes) ≡ pairs l.fn.items.items ++ each_held l.function l.classes
