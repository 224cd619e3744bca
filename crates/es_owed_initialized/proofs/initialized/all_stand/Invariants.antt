use Rattle.std.proofs.Common.{◌≡◌, drop}
use Rattle.es_lowered.specs.Lowered.{initializations_stand}
use Rattle.es_owed_initialized.proofs.initialized.all_stand.Given as goal

abbrev pub invariant-loop-entry : goal.invariant-loop-entry
invariant-loop-entry l =
    let stand = initializations_stand l.names.first l.names.ledger.now l.source.program.now l.names.lowered.now.program.now in
    stand (drop l.entry-index l.entries) ≡ stand l.entries
