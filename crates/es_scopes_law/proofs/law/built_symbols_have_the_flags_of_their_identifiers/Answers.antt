use Rattle.es_scopes_law.proofs.Flags.{flags-built, mark-is}
use Rattle.es_scopes_law.proofs.law.built_symbols_have_the_flags_of_their_identifiers.Goals as goal

pub returns-clause-flags : goal.returns-clause-flags
returns-clause-flags c = flags-built

pub returns-clause-mark : goal.returns-clause-mark
returns-clause-mark c = mark-is
