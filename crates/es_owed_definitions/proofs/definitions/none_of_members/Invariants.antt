use Rattle.std.proofs.Common.{◌≡◌, drop}
use Rattle.es_lowered.specs.Definitions.{none_of_members}
use Rattle.es_owed_definitions.proofs.definitions.none_of_members.Given as goal

abbrev pub invariant-loop-entry : goal.invariant-loop-entry
invariant-loop-entry l = none_of_members (drop l.entry-index l.ledger) ≡ none_of_members l.ledger
