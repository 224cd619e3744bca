use Rattle.std.proofs.Common.{◌≡◌, drop}
use Rattle.es_owed_names.specs.Single.{are_single}
use Rattle.es_owed_names.proofs.single.are_single_among.Given as goal

abbrev pub invariant-loop-entry : goal.invariant-loop-entry
invariant-loop-entry l = are_single (drop l.entry-index l.entries) l.names.ledger.now l.subjects.ledger.now ≡ are_single l.entries l.names.ledger.now l.subjects.ledger.now
