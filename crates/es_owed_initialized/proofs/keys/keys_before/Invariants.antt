use Rattle.std.proofs.Common.{◌≡◌, drop}
use Rattle.es_lowered.specs.Lowered.{keys_before}
use Rattle.es_owed_initialized.specs.Keys.{keys_of}
use Rattle.es_owed_initialized.proofs.keys.keys_before.Given as goal

abbrev pub invariant-loop-key : goal.invariant-loop-key
invariant-loop-key l =
    let before = keys_before l.names.first l.names.ledger.now l.names.lowered.now.program.now in
    before (keys_of (drop l.key-index l.keys)) ≡ before (keys_of l.keys)
