use Rattle.std.proofs.Common.{◌≡◌, ◌++◌, drop}
use Rattle.es_by_number.specs.Numbered.{pairs}
use Rattle.es_owed_initialized.specs.Identifiers.{turned}
use Rattle.es_owed_initialized.proofs.identifiers.by_identifier.Given as goal

abbrev pub invariant-loop-identifier : goal.invariant-loop-identifier
invariant-loop-identifier l = pairs l.classes.items ++ turned (pairs (drop l.identifier-index l.identifiers)) ≡ turned (pairs l.identifiers)
