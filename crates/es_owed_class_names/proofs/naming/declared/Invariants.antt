use Rattle.std.proofs.Common.{◌≡◌, ◌++◌, drop}
use Rattle.es_by_number.specs.Numbered.{pairs}
use Rattle.es_grouped.specs.Groups.{group}
use Rattle.es_owed_class_names.specs.NamedClasses.{declared}
use Rattle.es_owed_class_names.proofs.naming.declared.Given as goal

abbrev pub invariant-loop-class : goal.invariant-loop-class
invariant-loop-class l =
    let of = declared (λ n. group n l.identifiers) in
    pairs l.items.items ++ of (drop l.class-index l.classes) ≡ of l.classes
