use Rattle.std.proofs.Common.{◌≡◌, drop}
use Rattle.es_lowered.specs.ClassNames.{all_classes_timely}
use Rattle.es_owed_class_names.proofs.timely.all_classes_timely.Given as goal

abbrev pub invariant-loop-class : goal.invariant-loop-class
invariant-loop-class l =
    let of = all_classes_timely l.lowering.first l.lowering.reads.ledger.now l.lowering.source.now.program.now l.lowering.lowered.now.program.now in
    of (drop l.class-index l.lowering.classes.items) ≡ of l.lowering.classes.items
