use Rattle.std.proofs.Common.{◌≡◌, drop}
use Rattle.std.specs.Str.{chars}
use Rattle.es_lowered.specs.HelperCalls.{is_private_name}
use Rattle.es_owed_calls.proofs.tells.is_private_name.Given as goal

abbrev pub invariant-loop-entry : goal.invariant-loop-entry
invariant-loop-entry l = is_private_name (drop l.entry-index l.ledger) (chars l.name) ≡ is_private_name l.ledger (chars l.name)
