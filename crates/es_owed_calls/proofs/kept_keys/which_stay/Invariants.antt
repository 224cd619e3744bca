use Rattle.std.proofs.Common.{◌≡◌, ◌++◌, drop}
use Rattle.es_lowered.specs.KeptKeys.{which_stay}
use Rattle.es_steps.specs.References.{resolve}
use Rattle.es_owed_calls.proofs.kept_keys.which_stay.Given as goal

abbrev pub invariant-loop-key : goal.invariant-loop-key
invariant-loop-key l =
    let found = which_stay l.lowering.first l.lowering.ledger.now l.lowering.source.now.program.now l.lowering.lowered.now.program.now (resolve l.lowering.source.now.program.now) (resolve l.lowering.lowered.now.program.now) in
    l.staying.items ++ found (drop l.key-index l.keys) ≡ found l.keys
