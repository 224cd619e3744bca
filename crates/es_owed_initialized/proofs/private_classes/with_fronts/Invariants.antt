use Rattle.std.proofs.Common.{◌≡◌, ◌++◌, drop}
use Rattle.es_binding_faults.specs.Seen.{seen}
use Rattle.es_by_number.specs.Numbered.{pairs}
use Rattle.es_owed_initialized.specs.Fronts.{with_fronts}
use Rattle.es_owed_initialized.proofs.private_classes.with_fronts.Given as goal

abbrev pub invariant-loop-class : goal.invariant-loop-class
invariant-loop-class l =
    let of = with_fronts (seen l.source.nodes.items) (seen l.names.lowered.now.nodes.items) in
    pairs l.items.items ++ of (drop l.class-index l.classes) ≡ of l.classes
