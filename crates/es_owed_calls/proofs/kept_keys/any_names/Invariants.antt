use Rattle.std.proofs.Common.{◌≡◌, drop}
use Rattle.es_owed_calls.specs.KeptKeys.{any_named}
use Rattle.es_owed_calls.proofs.kept_keys.any_names.Given as goal

abbrev pub invariant-loop-class : goal.invariant-loop-class
invariant-loop-class l =
    let any = any_named l.lowering.first l.lowering.ledger.now l.lowering.source.now.program.now l.lowering.lowered.now.program.now in
    any (drop l.class-index l.classes) l.number ≡ any l.classes l.number
