use Rattle.std.proofs.Common.{◌≡◌, drop}
use Rattle.es_owed_names.specs.Single.{all_declared}
use Rattle.es_owed_names.proofs.declared.all_declared.Given as goal

abbrev pub invariant-loop-entry : goal.invariant-loop-entry
invariant-loop-entry l = all_declared l.first l.lowered.program.now (drop l.entry-index l.ledger) ≡ all_declared l.first l.lowered.program.now l.ledger
